-- What lies between two points.
use Rattle.std.specs.Prelude.{ℤ, pos, ◌-ℤ◌}
use Rattle.outline.specs.declared.point.Point.{Point}

-- How many columns the second point lies to the right of the first.
abbrev pub cols : Point → Point → ℤ
cols u v = pos v.col -ℤ pos u.col

-- How many rows the second point lies below the first.
abbrev pub rows : Point → Point → ℤ
rows u v = pos v.row -ℤ pos u.row
