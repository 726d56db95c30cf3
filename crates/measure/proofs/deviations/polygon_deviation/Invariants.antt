use Rattle.std.proofs.Common.{◌≡◌, drop}
use Rattle.outline.specs.Plain.{plain}
use Rattle.measure.specs.Deviation.{edge_deviation, polygon_deviation}
use Rattle.measure.proofs.Widening.{onward}
use Rattle.measure.proofs.deviations.polygon_deviation.Given as goal

abbrev pub invariant-loop-vertex : goal.invariant-loop-vertex
invariant-loop-vertex g l =
    onward (edge_deviation (g.M.Measure.strays l.measure) (plain l.outline).points) l.widest l.from (drop l.vertex-index l.list)
    ≡ polygon_deviation (edge_deviation (g.M.Measure.strays l.measure) (plain l.outline).points) l.list
