use Rattle.std.proofs.Common.{◌≡◌, ◌≤◌, ◌++◌, length, take, drop}
use Rattle.outline.specs.Plain.{plain}
use Rattle.outline.specs.Runs.{after, answers}
use Rattle.outline.proofs.outline.Outline.run.Given as goal

abbrev pub invariant-loop-i : goal.invariant-loop-i
invariant-loop-i l =
    (l.i ≤ length l.answers)
    × (plain l.self ≡ after (plain l.initial.self) (take l.i l.calls))
    × (l.answers ≡ answers (plain l.initial.self) (take l.i l.calls) ++ drop l.i l.initial.answers)
