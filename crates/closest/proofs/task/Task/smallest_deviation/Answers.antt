use Rattle.std.proofs.Common.{subst}
use Rattle.outline.specs.Plain.{plain}
use Rattle.closest.specs.Gaps.{Tried}
use Rattle.closest.proofs.Narrowing.{raised_fewer, lowered_fewer, smallest}
use Rattle.closest.proofs.task.Task.smallest_deviation.Goals as goal

pub loop-tolerance-smaller-in-Some-2 : goal.loop-tolerance-smaller-in-Some-2
loop-tolerance-smaller-in-Some-2 g c =
    let codes = g.C.Coder.table c.args.self.now.coder.now in
    let strays = g.M.Measure.strays c.args.self.now.measure.now in
    let ps = (plain c.args.self.now.outline.now).points in
    let t = c.in-Some.tolerance in
    let found = subst (Tried codes strays ps c.args.self.now.budget t) c.in-Some-2.is c.in_ok-deviation.ensures.tried in
    lowered_fewer codes strays ps c.loop-tolerance.gap t c.in-Some-2.deviation c.in-Some.ensures found.1

pub loop-tolerance-smaller : goal.loop-tolerance-smaller
loop-tolerance-smaller g c =
    raised_fewer (g.C.Coder.table c.args.self.now.coder.now) (g.M.Measure.strays c.args.self.now.measure.now) (plain c.args.self.now.outline.now).points
    c.loop-tolerance.gap c.in-Some.tolerance c.in-Some.ensures

pub returns : goal.returns
returns g c =
    let codes = g.C.Coder.table c.args.self.now.coder.now in
    let strays = g.M.Measure.strays c.args.self.now.measure.now in
    let ps = (plain c.args.self.now.outline.now).points in
    let inv = c.loop-tolerance.invariant in
    record {
      smallest = smallest codes strays ps c.args.self.now.budget c.loop-tolerance.gap inv.0 inv.1 c.in_default.ensures;
      further = inv.2;
    }
