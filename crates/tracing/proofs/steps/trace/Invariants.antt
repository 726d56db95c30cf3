use Rattle.std.proofs.Common.{◌≡◌, ◌+◌, ◌-◌, ◌≤◌, drop, length, take}
use Rattle.std.specs.Slice.Iter.{windows_rest, windows_size}
use Rattle.outline.specs.Plain.{plain}
use Rattle.tracing.specs.Tracing.{in_largest}
use Rattle.tracing.proofs.steps.trace.Given as goal

abbrev pub invariant-loop-pair : goal.invariant-loop-pair
invariant-loop-pair l =
    let rest = windows_rest l.pair-iterator in
    (windows_size l.pair-iterator ≡ 2)
    × (1 ≤ length rest)
    × (length rest ≤ length l.points)
    × (rest ≡ drop (length l.points - length rest) l.points)
    × (plain l.outline ≡ in_largest (take (length l.points - length rest + 1) l.points))
