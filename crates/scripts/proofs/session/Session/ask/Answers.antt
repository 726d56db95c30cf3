use Rattle.std.proofs.Common.{refl, ◌∙◌, rules}
use Rattle.scripts.proofs.Asking.{asked, front_of}
use Rattle.scripts.proofs.session.Session.ask.Goals as goal

pub returns : goal.returns
returns g c =
    let s = c.args.self.now in
    let rows = c.from-rows.ensures ∙ c.count.ensures in
    let places = c.from.ensures ∙ c.count-2.ensures in
    asked _ _ s _ _ _ _ _ _ c.make_call-answer.ensures refl (front_of _ _ _ (search rules) rows s.rows.few) (front_of _ _ _ refl rows s.rows.few) (front_of _ _ _ refl rows s.rows.few) (front_of _ _ _ refl places s.list.few) refl (c.or_refused.ensures ∙ c.reply.ensures) record { kind = refl; measure = refl; rows = refl; list = refl }
