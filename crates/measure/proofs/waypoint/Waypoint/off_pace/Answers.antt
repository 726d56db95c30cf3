use Rattle.std.proofs.Common.{arith}
use Rattle.measure.specs.Bounds.{pace_in_bounds}
use Rattle.measure.proofs.waypoint.Waypoint.off_pace.Goals as goal

pub of-requires : goal.of-requires
of-requires c =
    let w = c.args.self in
    let inside = pace_in_bounds w.moves w.made w.from w.to w.at w.some w.few w.fewer w.far w.near in
    omega arith
