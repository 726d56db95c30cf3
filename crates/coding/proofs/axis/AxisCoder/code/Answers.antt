use Rattle.std.specs.Prelude.{◌≤◌, ◌%◌, ◌==◌, nat_le}
use Rattle.std.proofs.Common.{◌+◌, ◌-◌, ◌*◌, ◌/◌, cond, Some, None, sym, refl, ap, ◌∙◌, arith}
use Rattle.std.proofs.lemmas.Bool.{and_parts, leb-true}
use Rattle.outline.specs.Directions.{direction_number}
use Rattle.coding.specs.Kinds.{axis_code}
use Rattle.coding.specs.Axes.{axis_bits}
use Rattle.coding.specs.BitLists.{value_two}
use Rattle.coding.specs.Legs.{leg_small, leg_code}
use Rattle.coding.proofs.axis.AxisCoder.code.Goals as goal

pub overflow_sub-bits : goal.overflow_sub-bits
overflow_sub-bits c =
    let leg = c.in_ok-towards in
    omega (arith, leg_small axis_code c.args.dx c.args.dy (direction_number leg.towards) leg.length c.ranges.dx c.ranges.dy leg.ensures.value)

pub returns : goal.returns
returns c =
    let leg = c.in_ok-towards in
    let d = direction_number leg.towards in
    let l = leg.length in
    let small = leg_small axis_code c.args.dx c.args.dy d l c.ranges.dx c.ranges.dy leg.ensures.value in
    c.then_some.ensures
    ∙ leg_code axis_code c.args.dx c.args.dy d l c.ranges.dx c.ranges.dy leg.ensures.value c.has_code.result (axis_bits d l) _ 8
    (ap (λ t. cond t (Some (axis_bits d l)) None) (sym c.has_code.ensures))
    (λ t. let short : l ≤ 64 = leb-true l 64 (and_parts (d % 2 == 0) (nat_le l 64) (sym c.has_code.ensures ∙ t)).1 in ap (λ k. k / 2 * 64 + (l - 1)) c.from.ensures ∙ sym (value_two 2 6 (d / 2) (l - 1) (omega (arith, small.0)) (omega arith)))
    refl
