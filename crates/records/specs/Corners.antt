-- The vertices of a polygon.
use Rattle.std.specs.Prelude.{List}
use Rattle.outline.specs.declared.point.Point.{Point}
use Rattle.records.specs.declared.corners.Corners.{Corners}
use Rattle.records.specs.Writing.{vertices}

-- The vertices that a polygon names among the points of its outline.
abbrev pub corner_points : Corners → List Point
corner_points c = vertices c.points.now c.list.now
