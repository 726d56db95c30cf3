-- A point on the way along an edge.
use Rattle.std.specs.Prelude.{◌≡◌, ℕ, ◌-◌, true, false, List, length, Some, None, Option, slice_index_or}
use Rattle.outline.specs.declared.point.Point.{Point}
use Rattle.outline.specs.Held.{origin}
use Rattle.measure.specs.declared.waypoint.Waypoint.{Waypoint}
use Rattle.measure.specs.Distances.{between}

-- An answer is point k on the way from point i to point j, or none where k is not between them.
abbrev pub OnTheWay : List Point → ℕ → ℕ → ℕ → Option Waypoint → Type 0
OnTheWay ps i k j (Some w) =
    (between (length ps) i k j ≡ true)
    × (w.from ≡ slice_index_or ps i origin)
    × (w.to ≡ slice_index_or ps j origin)
    × (w.at ≡ slice_index_or ps k origin)
    × (w.moves ≡ j - i)
    × (w.made ≡ k - i)
OnTheWay ps i k j None = between (length ps) i k j ≡ false
