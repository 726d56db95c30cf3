use Rattle.outline.specs.Plain.{plain}
use Rattle.closest.specs.Gaps.{candidate}
use Rattle.closest.proofs.Drawing.{drawn_middle}
use Rattle.closest.proofs.task.Task.next_tolerance.Goals as goal

pub returns : goal.returns
returns g c =
    let candidates = candidate (g.C.Coder.table c.args.self.now.coder.now) (g.M.Measure.strays c.args.self.now.measure.now) (plain c.args.self.now.outline.now).points c.args.gap in
    drawn_middle candidates c.loop-to.to 0 c.loop-to.sample c.in_ok-sample.field-0 c.middle.result c.loop-to.invariant c.in_ok-sample.was c.middle.ensures
