use Rattle.std.proofs.Common.{cond, Some, None, sym, refl, ap, ◌∙◌}
use Rattle.outline.specs.Directions.{direction_number}
use Rattle.coding.specs.Kinds.{axis_code}
use Rattle.coding.specs.Axes.{axis_bits}
use Rattle.coding.specs.Legs.{leg_price}
use Rattle.coding.proofs.axis.AxisCoder.price.Goals as goal

pub returns : goal.returns
returns c =
    let leg = c.in_ok-towards in
    let d = direction_number leg.towards in
    let l = leg.length in
    c.then_some.ensures
    ∙ leg_price axis_code c.args.dx c.args.dy d l c.ranges.dx c.ranges.dy leg.ensures.value c.has_code.result (axis_bits d l) 8 (ap (λ t. cond t (Some (axis_bits d l)) None) (sym c.has_code.ensures)) refl
