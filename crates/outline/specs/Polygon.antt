-- Polygons of an outline and their edges.
use Rattle.std.specs.Prelude.{◌≡◌, ℕ, suc, ◌-◌, ◌<◌, List, [], ◌∷◌, length, slice_index, slice_index_or}

-- A polygon of n points is a rising list of point numbers from 0 to the last point's number.
pub record Polygon (n : ℕ) (vs : List ℕ) : Type 0 where
  pub some : 0 < length vs
  pub first : slice_index_or vs 0 0 ≡ 0
  pub last : suc (slice_index vs (length vs - 1)) ≡ n
  pub rising : (k : ℕ) → suc k < length vs → slice_index vs k < slice_index vs (suc k)

-- The edges of a list of point numbers are its neighbours i, j in order.
abbrev pub edges : List ℕ → List (ℕ × ℕ)
edges [] = []
edges (i ∷ []) = []
edges (i ∷ j ∷ vs) = (i, j) ∷ edges (j ∷ vs)
