use Rattle.std.proofs.Common.{◌≡◌, ◌<◌, ◌≤◌, length, Some, None, Option, Err, refl, ap, ◌∙◌, subst, inl, inr, arith}
use Rattle.outline.proofs.Kept.{rules_of}
use Rattle.outline.specs.Plain.{plain}
use Rattle.outline.specs.declared.refusal.Refusal.TheVariants.{NoUsable}
use Rattle.search.proofs.Lasts.{room_fits}
use Rattle.search.specs.Cheapest.{CheapestRule, CheapestBest}
use Rattle.std.proofs.lemmas.Result.{err_from_is_err_and}
use Rattle.std.specs.Option.{ok_or}
use Rattle.closest.proofs.Answering.{closest_rule, closest_best}
use Rattle.closest.proofs.Fitting.{made_again, left_at_largest, writes_none, all_over, reached_first}
use Rattle.closest.proofs.closest.Goals as goal

none_refused : {X E : Type 0} (o : Option X) (e d : E) → Err e ≡ ok_or o d → (o ≡ None) × (e ≡ d)
none_refused None e d h = (refl, cc)
none_refused (Some x) e d h = cc

pub returns-in_err-cost : goal.returns-in_err-cost
returns-in_err-cost g c =
    let p = err_from_is_err_and c.from_residual-in_err-cost.result c.from_residual-in_err-cost.ensures.1 in
    let refused = none_refused c.in_ok-fill_at.field-0 c.in_err-cost.field-0.0 NoUsable c.in_err-cost.ensures.value in
    let is : c.from_residual-in_err-cost.result ≡ Err NoUsable = p.1 ∙ ap Err (p.2 ∙ refused.1) in
    let o = c.args.outline.now in
    let ps = (plain o).points in
    let codes = g.C.Coder.table c.args.coder.now in
    let strays = g.M.Measure.strays c.args.measure.now in
    let few = (rules_of o).count.1 in
    let laws = g.met.C.Coder.codes c.args.coder.now in
    let h = c.in_ok-fill_at.ensures in
    let cost = c.in_ok-fill_at.field-0 in
    let t = c.largest.result in
    let fits = room_fits (length ps) (length c.args.rows.now) (length c.args.list.now) _ c.in_ok-check_room.ensures in
    let left = left_at_largest codes strays ps few laws t c.largest.ensures cost h.best c.args.rows.now c.fill_at.new.rows h.rule.0 in
    let none = writes_none codes strays ps few laws t c.largest.ensures cost h.best refused.0 in
    rw is (record { rule = inr (inr (inl (refl, fits.1, none, left, refl))); best = λ _ _. inl (refl, none) })

pub returns-then-cost-budget : goal.returns-then-cost-budget
returns-then-cost-budget g c =
    let o = c.args.outline.now in
    let ps = (plain o).points in
    let codes = g.C.Coder.table c.args.coder.now in
    let strays = g.M.Measure.strays c.args.measure.now in
    let few = (rules_of o).count.1 in
    let laws = g.met.C.Coder.codes c.args.coder.now in
    let h = c.in_ok-fill_at.ensures in
    let cost = c.in_ok-fill_at.field-0 in
    let t = c.largest.result in
    let fits = room_fits (length ps) (length c.args.rows.now) (length c.args.list.now) _ c.in_ok-check_room.ensures in
    let left = left_at_largest codes strays ps few laws t c.largest.ensures cost h.best c.args.rows.now c.fill_at.new.rows h.rule.0 in
    let over = all_over codes strays ps few laws t c.largest.ensures cost h.best c.args.budget c.in_ok-cost.cost c.in_ok-cost.ensures.ok_part c.if-cost-budget.true in
    record { rule = inr (inr (inr (refl, fits.1, over, left, refl))); best = λ _ _. inr (refl, over) }

pub smallest_deviation-requires : goal.smallest_deviation-requires
smallest_deviation-requires g c =
    let o = c.args.outline.now in
    let h = c.in_ok-fill_at.ensures in
    reached_first (g.C.Coder.table c.args.coder.now) (g.M.Measure.strays c.args.measure.now) (plain o).points (rules_of o).count.1 (g.met.C.Coder.codes c.args.coder.now) c.largest.result c.largest.ensures c.in_ok-fill_at.field-0 h.best c.args.budget c.in_ok-cost.cost c.in_ok-cost.ensures.ok_part c.if-cost-budget.false

pub returns : goal.returns
returns g c =
    let o = c.args.outline.now in
    let ps = (plain o).points in
    let codes = g.C.Coder.table c.args.coder.now in
    let strays = g.M.Measure.strays c.args.measure.now in
    let laws = g.met.C.Coder.codes c.args.coder.now in
    let some : 0 < length ps = omega (arith, (rules_of o).count.0) in
    let few = (rules_of o).count.1 in
    let fits = room_fits (length ps) (length c.args.rows.now) (length c.args.list.now) _ c.in_ok-check_room.ensures in
    let h = c.in_ok-fill_at.ensures in
    let d = c.in_ok-d.d in
    let s = c.in_ok-d.ensures in
    let is = made_again d c.top.result c.bottom.result c.top.ensures c.bottom.ensures in
    let rows = c.args.rows.now in
    let mid = c.smallest_deviation.new.rows in
    let after = c.cheapest.new.rows in
    let list = c.args.list.now in
    let list_after = c.cheapest.new.list in
    let r = c.cheapest.result in
    let mid_long : length ps ≤ length mid = omega (arith, fits.0, c.fill_at.auto.rows, c.smallest_deviation.auto.rows) in
    let after_long : length ps ≤ length after = omega (arith, mid_long, c.cheapest.auto.rows) in
    record {
      rule = closest_rule codes strays ps some few laws c.args.budget d s.smallest rows mid after list list_after r fits.0 mid_long after_long fits.1 (s.further ∙ h.rule.0.2)
          (subst (λ t. CheapestRule codes strays t ps mid after list list_after r) is c.cheapest.ensures.rule);
      best = λ _ _. closest_best codes strays ps some few laws c.args.budget d s.smallest list_after r
          (subst (λ t. CheapestBest codes strays t ps list_after r) is (c.cheapest.ensures.best mid_long fits.1));
    }
