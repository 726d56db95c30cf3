use Rattle.std.proofs.Common.{Option, subst}
use Rattle.measure.specs.declared.fraction.Fraction.{Fraction}
use Rattle.replay.specs.declared.call.Call.TheVariants.{Least}
use Rattle.scripts.specs.Sessions.{PricedAsked}
use Rattle.scripts.proofs.Asking.{priced_asked}
use Rattle.scripts.proofs.session.Session.least_priced.Goals as goal

pub returns-in-Ok : goal.returns-in-Ok
returns-in-Ok c =
    let s = c.args.self.now in
    let w = c.in-Ok.weigher in
    let own = c.in-Ok.ensures in
    subst (λ (o : Option Fraction). PricedAsked s o c.ask.result c.ask.new.self) own.2 (priced_asked w.tolerance s.kind s.measure w.coder.now w.measure.now own.0 own.1 s Least _ _ c.ask.ensures)
