-- What a table of points holds, and the rules of the points of an outline.
use Rattle.std.specs.Prelude.{◌≡◌, ℕ, suc, ◌<◌, List, length, get_or, take, Some, slice_index_or}
use Rattle.outline.specs.declared.point.Point.{Point}
use Rattle.outline.specs.declared.points.Points.{Points}
use Rattle.outline.specs.Moves.{moved}

-- The points that a table holds, first to last.
abbrev pub held : Points → List Point
held t = take t.len t.at

-- Column 0 of row 0.
abbrev pub origin : Point
origin = record { col = 0; row = 0 }

-- Each point lies in the frame.
abbrev pub Framed : ℕ → ℕ → List Point → Type 0
Framed w h ps = (k : ℕ) → k < length ps → ((get_or ps k origin).col < w) × ((get_or ps k origin).row < h)

-- A point is another one, moved by one of the eight directions inside the frame.
abbrev pub Follows : ℕ → ℕ → Point → Point → Type 0
Follows w h p q = ∥ ((d : ℕ) × (d < 8) × (moved w h p d ≡ Some q)) ∥₁

-- Each point after the first is the one before it, moved by a direction.
abbrev pub Traced : ℕ → ℕ → List Point → Type 0
Traced w h ps = (k : ℕ) → suc k < length ps → Follows w h (slice_index_or ps k origin) (slice_index_or ps (suc k) origin)
