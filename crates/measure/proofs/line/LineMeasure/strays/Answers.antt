use Rattle.std.proofs.Common.{arith}
use Rattle.measure.specs.Bounds.{points_close}
use Rattle.measure.proofs.line.LineMeasure.strays.Goals as goal

pub line_from-requires : goal.line_from-requires
line_from-requires c =
    let x = c.args in
    let close = points_close x.outline.now c.points-points.result.now c.points-points.ensures in
    (close x.i x.j (omega arith) (omega arith), close x.i x.k (omega arith) (omega arith))
