use Rattle.std.proofs.Common.{◌≡◌, ◌+◌, ◌-◌, ◌<◌, ◌≤◌, length, get_or, take, Some, Ok, sym, ap, ◌∙◌, subst₂, arith, rules}
use Rattle.std.proofs.lemmas.Iterator.{window_more}
use Rattle.std.proofs.lemmas.Option.{none-some}
use Rattle.std.specs.Result.{result_ok}
use Rattle.std.specs.Slice.Iter.{windows_rest}
use Rattle.outline.specs.Held.{origin}
use Rattle.outline.specs.Moves.{moved}
use Rattle.outline.specs.Plain.{plain, extended, answer, left_by}
use Rattle.tracing.specs.Tracing.{in_largest}
use Rattle.tracing.proofs.Walks.{extended_is, extended_room, ok_of, stuck}
use Rattle.tracing.proofs.steps.trace.Goals as goal

pub returns-in_err-step : goal.returns-in_err-step
returns-in_err-step c =
    let ps = c.args.points.now in
    let l = c.loop-pair in
    let k = length ps - length (windows_rest l.pair-iterator) + 1 in
    let w = window_more ps l.pair-iterator c.next.new.self c.next.result c.in-Some.pair c.in-Some.is c.next.ensures.steps (omega (arith, l.invariant.0)) l.invariant.2 l.invariant.3 in
    let first : get_or c.in-Some.pair.now 0 origin ≡ get_or ps (k - 1) origin = w.3 0 origin (omega (arith, l.invariant.0)) ∙ ap (λ i. get_or ps i origin) (omega arith) in
    let second : get_or c.in-Some.pair.now 1 origin ≡ get_or ps k origin = w.3 1 origin (omega (arith, l.invariant.0)) in
    rw c.from_residual-in_err-step.ensures (stuck ps k _ _ (omega arith) (omega (arith, w.2, l.invariant.0, l.invariant.2)) first second c.in_err-step.ensures)

pub returns-in_err-ok-2 : goal.returns-in_err-ok-2
returns-in_err-ok-2 c =
    let ps = c.args.points.now in
    let l = c.loop-pair in
    let k = length ps - length (windows_rest l.pair-iterator) + 1 in
    let w = window_more ps l.pair-iterator c.next.new.self c.next.result c.in-Some.pair c.in-Some.is c.next.ensures.steps (omega (arith, l.invariant.0)) l.invariant.2 l.invariant.3 in
    let first : get_or c.in-Some.pair.now 0 origin ≡ get_or ps (k - 1) origin = w.3 0 origin (omega (arith, l.invariant.0)) ∙ ap (λ i. get_or ps i origin) (omega arith) in
    let second : get_or c.in-Some.pair.now 1 origin ≡ get_or ps k origin = w.3 1 origin (omega (arith, l.invariant.0)) in
    let d = c.in_ok-step.field-0 in
    let step = c.in_ok-step.ensures in
    let there : moved 1024 1024 (get_or ps (k - 1) origin) d ≡ Some (get_or ps k origin) = subst₂ (λ u v. moved 1024 1024 u d ≡ Some v) first second step.1 in
    rw c.from_residual-in_err-ok-2.ensures
    (λ rules.
    let few : length ps ≤ 256 = rules.count.1 in
    let below : k < length ps = omega (arith, w.2, l.invariant.0, l.invariant.2) in
    let made : c.extend.result ≡ Ok tt = c.extend.ensures.said ∙ ap (λ p. answer (extended p d)) l.invariant.4 ∙ ap answer (extended_is ps k d below (omega arith) (omega arith) step.0 there) in
    none-some tt (c.in_err-ok-2.ensures.value ∙ ap result_ok made))

pub loop-pair-preserved : goal.loop-pair-preserved
loop-pair-preserved c =
    let ps = c.args.points.now in
    let l = c.loop-pair in
    let k = length ps - length (windows_rest l.pair-iterator) + 1 in
    let w = window_more ps l.pair-iterator c.next.new.self c.next.result c.in-Some.pair c.in-Some.is c.next.ensures.steps (omega (arith, l.invariant.0)) l.invariant.2 l.invariant.3 in
    let first : get_or c.in-Some.pair.now 0 origin ≡ get_or ps (k - 1) origin = w.3 0 origin (omega (arith, l.invariant.0)) ∙ ap (λ i. get_or ps i origin) (omega arith) in
    let second : get_or c.in-Some.pair.now 1 origin ≡ get_or ps k origin = w.3 1 origin (omega (arith, l.invariant.0)) in
    let d = c.in_ok-step.field-0 in
    let step = c.in_ok-step.ensures in
    let there : moved 1024 1024 (get_or ps (k - 1) origin) d ≡ Some (get_or ps k origin) = subst₂ (λ u v. moved 1024 1024 u d ≡ Some v) first second step.1 in
    let below : k < length ps = omega (arith, w.2, l.invariant.0, l.invariant.2) in
    let same = ap (λ p. extended p d) l.invariant.4 in
    let ok = ok_of c.extend.result c.in_ok-ok-2.field-0 c.in_ok-ok-2.ensures.value in
    let room = extended_room ps k d c.in_ok-ok-2.field-0 (omega arith) step.0 (ap answer (sym same) ∙ sym c.extend.ensures.said ∙ ok) in
    let after : plain c.extend.new.self ≡ in_largest (take (k + 1) ps) = c.extend.ensures.after ∙ ap (left_by (plain l.outline)) (same ∙ extended_is ps k d below (omega arith) room step.0 there) in (
      search rules,
      omega (arith, w.0, w.2, l.invariant.0),
      omega (arith, w.0, l.invariant.2),
      w.1,
      after ∙ ap (λ n. in_largest (take n ps)) (omega (arith, w.0, w.2, l.invariant.0, l.invariant.2)),
    )
