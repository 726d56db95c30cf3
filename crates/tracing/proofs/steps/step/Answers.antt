use Rattle.std.proofs.Common.{◌≡◌, ℤ, Some, rules, tests}
use Rattle.std.proofs.lemmas.Iterator.{IsFirst-from_position, YieldsList-from_slice}
use Rattle.std.proofs.lemmas.Option.{MatchOption-at_some, MatchOption-at_none}
use Rattle.outline.specs.Moves.{displaced, moves}
use Rattle.tracing.proofs.Walks.{direction_of}
use Rattle.tracing.proofs.steps.step.Goals as goal

pub returns-in_err-direction : goal.returns-in_err-direction
returns-in_err-direction c =
    let from = c.args.from in
    let to = c.args.to in
    let found = IsFirst-from_position _ _ _ (λ (m : ℤ × ℤ). displaced 1024 1024 from m.0 m.1 ≡ Some to) (λ (m : ℤ × ℤ). displaced 1024 1024 from m.0 m.1 ≡ Some to → ⊥) c.position.ensures.ran (YieldsList-from_slice moves c.iter.ensures.rest) (λ x q k. search (rules, tests)) (λ x q k. search (rules, tests)) in
    rw c.from_residual.ensures (MatchOption-at_none _ _ c.in_err-direction.was (direction_of from to c.position.result found))

pub returns : goal.returns
returns c =
    let from = c.args.from in
    let to = c.args.to in
    let found = IsFirst-from_position _ _ _ (λ (m : ℤ × ℤ). displaced 1024 1024 from m.0 m.1 ≡ Some to) (λ (m : ℤ × ℤ). displaced 1024 1024 from m.0 m.1 ≡ Some to → ⊥) c.position.ensures.ran (YieldsList-from_slice moves c.iter.ensures.rest) (λ x q k. search (rules, tests)) (λ x q k. search (rules, tests)) in
    MatchOption-at_some _ _ c.in_ok-direction.direction c.in_ok-direction.was (direction_of from to c.position.result found)
