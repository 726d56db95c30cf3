use Rattle.std.proofs.Common.{◌+◌, sym, subst}
use Rattle.outline.specs.Plain.{plain}
use Rattle.closest.specs.Gaps.{candidate, Drawn}
use Rattle.closest.proofs.Drawing.{drawn_more, drawn_skips}
use Rattle.closest.proofs.task.Task.sample_to.Goals as goal
use Rattle.closest.proofs.task.Task.sample_to.Goals.{in-Some, in_default}

pub loop-from-preserved : goal.loop-from-preserved
loop-from-preserved g c =
    let to = c.args.to in
    let from = c.loop-from.from in
    let candidates = candidate (g.C.Coder.table c.args.self.now.coder.now) (g.M.Measure.strays c.args.self.now.measure.now) (plain c.args.self.now.outline.now).points c.args.gap in
    elim c.match-candidate.branch [
      | in-Some w ↦ subst (Drawn candidates to (from + 1)) (sym w.sample-is) (drawn_more candidates to from c.loop-from.sample _ w.with.result c.loop-from.invariant (sym w.in-Some.ensures) w.with.ensures)
      | in_default w ↦ subst (Drawn candidates to (from + 1)) (sym w.sample-is) (drawn_skips candidates to from c.loop-from.sample c.loop-from.invariant (sym w.in_default.ensures))
    ]
