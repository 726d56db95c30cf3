use Rattle.outline.specs.Plain.{plain}
use Rattle.closest.specs.Gaps.{candidate, Drawn}
use Rattle.closest.proofs.task.Task.next_tolerance.Given as goal

abbrev pub invariant-loop-to : goal.invariant-loop-to
invariant-loop-to g l = Drawn (candidate (g.C.Coder.table l.self.coder.now) (g.M.Measure.strays l.self.measure.now) (plain l.self.outline.now).points l.gap) l.to 0 l.sample
