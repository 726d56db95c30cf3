-- What the measures know of any two points of an outline.
use Rattle.std.specs.Prelude.{◌≤◌, unsigned_abs}
use Rattle.outline.specs.declared.point.Point.{Point}
use Rattle.measure.specs.Distances.{cols, rows}

-- Two points lie at most 255 columns and 255 rows apart.
abbrev pub Close : Point → Point → Type 0
Close u v = (unsigned_abs (cols u v) ≤ 255) × (unsigned_abs (rows u v) ≤ 255)
