use Rattle.std.proofs.Common.{◌≡◌, ℕ, ◌+◌, ◌-◌, ◌*◌, ◌^◌, true, sym, ap, ap₂, ◌∙◌, arith}
use Rattle.outline.specs.Directions.{direction_number}
use Rattle.coding.specs.Kinds.{class, run_code}
use Rattle.coding.specs.Legs.{leg_small, leg_code, leg_no_code}
use Rattle.coding.specs.Runs.{class_bounds, class_told, class_untold, run_bits, run_at, run_length, run_value}
use Rattle.coding.proofs.run.RunCoder.code.Goals as goal

pub class-requires : goal.class-requires
class-requires c =
    let leg = c.in_ok-towards in
    (leg_small run_code c.args.dx c.args.dy (direction_number leg.towards) leg.length c.ranges.dx c.ranges.dy leg.ensures.value).1

pub returns-in_err-below : goal.returns-in_err-below
returns-in_err-below c =
    let leg = c.in_ok-towards in
    let d = direction_number leg.towards in
    c.from_residual-in_err-below.ensures ∙ leg_no_code run_code c.args.dx c.args.dy d leg.length c.ranges.dx c.ranges.dy leg.ensures.value (class_untold d leg.length c.in_err-below.ensures)

pub overflow_sub-result : goal.overflow_sub-result
overflow_sub-result c =
    let leg = c.in_ok-towards in
    let l = leg.length in
    let small = leg_small run_code c.args.dx c.args.dy (direction_number leg.towards) l c.ranges.dx c.ranges.dy leg.ensures.value in
    let told = class_told l c.in_ok-below.below c.in_ok-below.ensures in
    let top : c.highest-top.result ≡ 2 ^ class l = c.highest-top.ensures ∙ ap (λ k. 2 ^ k) (sym told.1) in
    omega (arith, top, (class_bounds l small.1 told.0).1)

pub returns : goal.returns
returns c =
    let leg = c.in_ok-towards in
    let d = direction_number leg.towards in
    let l = leg.length in
    let small = leg_small run_code c.args.dx c.args.dy d l c.ranges.dx c.ranges.dy leg.ensures.value in
    let told = class_told l c.in_ok-below.below c.in_ok-below.ensures in
    let top : c.highest-top.result ≡ 2 ^ class l = c.highest-top.ensures ∙ ap (λ k. 2 ^ k) (sym told.1) in
    leg_code run_code c.args.dx c.args.dy d l c.ranges.dx c.ranges.dy leg.ensures.value true (run_bits d l) _ _ (run_at d l told.0)
    (λ _.
    ap (λ j. (j * 4 + c.in_ok-below.below) * c.highest-top.result + (l - c.highest-top.result)) c.from.ensures
    ∙ ap₂ (λ (k t : ℕ). (d * 4 + k) * t + (l - t)) (sym told.1) top
    ∙ sym (run_value d l small.0 small.1 told.0))
    (ap (λ k. 5 + k) (sym told.1) ∙ sym (run_length d l))
