use Rattle.std.proofs.Common.{arith}
use Rattle.measure.specs.Bounds.{points_close, points_few}
use Rattle.measure.proofs.waypoint.Waypoint.new.Goals as goal

pub invariant_of-result : goal.invariant_of-result
invariant_of-result c =
    let x = c.args in
    let ps = c.points-points.result.now in
    let close = points_close x.outline.now ps c.points-points.ensures in
    let count = points_few x.outline.now ps c.points-points.ensures in
    record {
      far = close x.i x.j (omega arith) (omega arith);
      near = close x.i x.k (omega arith) (omega arith);
      some = omega arith;
      few = omega arith;
      fewer = omega arith;
    }
