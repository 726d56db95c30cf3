use Rattle.std.proofs.Common.{◌+◌, true, sym, ap, ◌∙◌}
use Rattle.outline.specs.Directions.{direction_number}
use Rattle.coding.specs.Kinds.{run_code}
use Rattle.coding.specs.Legs.{leg_small, leg_price, leg_no_price}
use Rattle.coding.specs.Runs.{class_told, class_untold, run_bits, run_at, run_length}
use Rattle.coding.proofs.run.RunCoder.price.Goals as goal

pub class-requires : goal.class-requires
class-requires c =
    let leg = c.in_ok-length in
    (leg_small run_code c.args.dx c.args.dy (direction_number leg.field-0-0) leg.length c.ranges.dx c.ranges.dy leg.ensures.value).1

pub returns-in_err-class : goal.returns-in_err-class
returns-in_err-class c =
    let leg = c.in_ok-length in
    let d = direction_number leg.field-0-0 in
    c.from_residual-in_err-class.ensures ∙ leg_no_price run_code c.args.dx c.args.dy d leg.length c.ranges.dx c.ranges.dy leg.ensures.value (class_untold d leg.length c.in_err-class.ensures)

pub returns : goal.returns
returns c =
    let leg = c.in_ok-length in
    let d = direction_number leg.field-0-0 in
    let l = leg.length in
    let told = class_told l c.in_ok-class.field-0 c.in_ok-class.ensures in
    leg_price run_code c.args.dx c.args.dy d l c.ranges.dx c.ranges.dy leg.ensures.value true (run_bits d l) _ (run_at d l told.0) (ap (λ k. 5 + k) (sym told.1) ∙ sym (run_length d l))
