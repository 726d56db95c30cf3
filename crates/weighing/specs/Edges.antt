-- The displacement and the price of an edge, and the bits of a polygon.
use Rattle.std.specs.Prelude.{ℕ, cond, ◌&&◌, List, length, ℤ, None, sum_by, Option, nat_lt, slice_index_or}
use Rattle.std.specs.Option.{unwrap_or}
use Rattle.outline.specs.declared.point.Point.{Point}
use Rattle.outline.specs.Held.{origin}
use Rattle.outline.specs.Polygon.{edges}
use Rattle.measure.specs.Distances.{cols, rows}
use Rattle.coding.specs.Tables.{Table, price_of}

-- The displacement of edge i, j: the columns and the rows from point i to point j.
abbrev pub displacement : List Point → ℕ → ℕ → ℤ × ℤ
displacement ps i j = (cols (slice_index_or ps i origin) (slice_index_or ps j origin), rows (slice_index_or ps i origin) (slice_index_or ps j origin))

-- The price of edge i, j by a table of codes: that of its displacement, or none where there is no code or no such edge.
abbrev pub edge_price : Table → List Point → ℕ → ℕ → Option ℕ
edge_price codes ps i j = cond (nat_lt i j && nat_lt j (length ps)) (price_of (codes (displacement ps i j).0 (displacement ps i j).1)) None

-- The bits of a polygon: the prices of its edges added.
abbrev pub polygon_bits : (ℕ → ℕ → Option ℕ) → List ℕ → ℕ
polygon_bits price vs = sum_by (λ e. unwrap_or (price e.0 e.1) 0) (edges vs)
