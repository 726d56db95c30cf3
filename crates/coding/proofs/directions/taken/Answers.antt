use Rattle.std.proofs.Common.{ℤ, pos, ◌≤◌, ◌*ℤ◌, sym, ap, ap₂, ◌∙◌, subst, arith}
use Rattle.std.specs.Prelude.{unsigned_abs}
use Rattle.outline.specs.Directions.{direction_number}
use Rattle.outline.proofs.Kept.{number_small}
use Rattle.coding.specs.Straight.{move_small, times_is}
use Rattle.coding.proofs.directions.taken.Goals as goal

pub returns : goal.returns
returns c =
    let P : ℤ × ℤ → Type 0 = λ m. (unsigned_abs m.0 ≤ 1) × (unsigned_abs m.1 ≤ 1) in
    let few = subst P (sym c.step-cols.ensures) (move_small (direction_number c.args.towards) (number_small c.args.towards)) in
    ap₂ (λ (a b : ℤ). (a, b)) (times_is c.args.length c.step-cols.result.0 (omega arith) few.0) (times_is c.args.length c.step-cols.result.1 (omega arith) few.1)
    ∙ ap (λ (m : ℤ × ℤ). (pos c.args.length *ℤ m.0, pos c.args.length *ℤ m.1)) c.step-cols.ensures
