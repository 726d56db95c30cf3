use Rattle.std.proofs.Common.{◌+◌, ◌*◌, ◌/◌, ◌%◌, sym, refl, ap, ◌∙◌, arith}
use Rattle.coding.specs.Directions.{taken}
use Rattle.coding.specs.Kinds.{axis_code}
use Rattle.coding.specs.Rows.{row_bits}
use Rattle.coding.specs.Axes.{axis_bits, axis_at, axis_begins}
use Rattle.coding.specs.Fields.{number_is}
use Rattle.coding.specs.Legs.{leg_read}
use Rattle.coding.specs.Straight.{number_told, number_untold}
use Rattle.coding.proofs.axis.AxisCoder.read.Goals as goal

pub overflow_cast-bits : goal.overflow_cast-bits
overflow_cast-bits c = omega (arith, number_is 8 (row_bits c.args.row) c.in_ok-bits.bits (sym c.in_ok-bits.ensures))

pub returns-in_err-towards : goal.returns-in_err-towards
returns-in_err-towards c = absurd (omega (arith, number_is 8 (row_bits c.args.row) c.in_ok-bits.bits (sym c.in_ok-bits.ensures), number_untold _ _ c.try_from.ensures c.in_err-towards.ensures.value))

pub returns : goal.returns
returns c =
    let row = row_bits c.args.row in
    let v = c.in_ok-bits.bits in
    let is = number_is 8 row v (sym c.in_ok-bits.ensures) in
    let d = v / 64 * 2 in
    let l = v % 64 + 1 in
    let same = number_told d c.try_from.result c.in_ok-towards.towards c.try_from.ensures c.in_ok-towards.ensures.value in
    leg_read axis_code row d l 8 c.displacement-dx.result (axis_bits d l) (omega (arith, is.1)) (omega arith) (omega arith) (c.displacement-dx.ensures ∙ ap (λ k. taken k l) same) (axis_at d l (omega arith) (omega arith)) (axis_begins v row is.1 is.2) refl
