use Rattle.outline.specs.Plain.{plain}
use Rattle.closest.specs.Gaps.{candidate, Drawn}
use Rattle.closest.proofs.task.Task.sample_to.Given as goal

abbrev pub invariant-loop-from : goal.invariant-loop-from
invariant-loop-from g l = Drawn (candidate (g.C.Coder.table l.self.coder.now) (g.M.Measure.strays l.self.measure.now) (plain l.self.outline.now).points l.gap) l.to l.from l.sample
