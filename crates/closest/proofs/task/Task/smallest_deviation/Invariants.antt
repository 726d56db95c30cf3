use Rattle.std.proofs.Common.{◌≡◌, length, drop}
use Rattle.outline.specs.Plain.{plain}
use Rattle.closest.proofs.Narrowing.{how_many, KnownLow}
use Rattle.closest.specs.Gaps.{Reached, candidate}
use Rattle.closest.proofs.task.Task.smallest_deviation.Given as goal

abbrev pub invariant-loop-tolerance : goal.invariant-loop-tolerance
invariant-loop-tolerance g l =
    let codes = g.C.Coder.table l.self.coder.now in
    let strays = g.M.Measure.strays l.self.measure.now in
    let ps = (plain l.self.outline.now).points in
    Reached codes strays ps l.self.budget l.gap.high × KnownLow codes strays ps l.self.budget l.gap.low
    × (drop (length ps) l.rows ≡ drop (length ps) l.initial.rows)

abbrev pub decreases-loop-tolerance : goal.decreases-loop-tolerance
decreases-loop-tolerance g l =
    let ps = (plain l.self.outline.now).points in
    how_many (candidate (g.C.Coder.table l.self.coder.now) (g.M.Measure.strays l.self.measure.now) ps l.gap) (length ps)
