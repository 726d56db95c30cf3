-- The deviation of an edge and of a polygon.
use Rattle.std.specs.Prelude.{ℕ, zero, suc, ◌+◌, ◌-◌, Bool, false, cond, not, ◌&&◌, List, length, Some, None, fold, Option, nat_lt}
use Rattle.outline.specs.declared.point.Point.{Point}
use Rattle.outline.specs.Polygon.{edges}
use Rattle.measure.specs.declared.fraction.Fraction.{Fraction}
use Rattle.measure.specs.Fractions.{zero as nought, above, widened}
use Rattle.measure.specs.Measures.{Strays}

-- 0/1, replaced in order by each fraction of the n points after point i that is greater.
abbrev pub widest : (ℕ → Option Fraction) → ℕ → ℕ → Fraction
widest f i zero = nought
widest f i (suc n) = widened (widest f i n) (f (i + suc n))

-- The deviation of edge i, j of n points: the widest over the points between its ends, or none where there is no such edge.
abbrev pub deviation : (ℕ → ℕ → ℕ → Option Fraction) → ℕ → ℕ → ℕ → Option Fraction
deviation strays n i j = cond (nat_lt i j && nat_lt j n) (Some (widest (λ k. strays i k j) i (j - suc i))) None

-- The deviation of edge i, j of an outline's points by a measure.
abbrev pub edge_deviation : Strays → List Point → ℕ → ℕ → Option Fraction
edge_deviation strays ps i j = deviation (strays ps) (length ps) i j

-- Whether there is a deviation and it is not above a tolerance.
abbrev pub within : Fraction → Option Fraction → Bool
within t (Some d) = not (above d t)
within t None = false

-- A deviation where it is within a tolerance, else none.
abbrev pub kept_within : Fraction → Option Fraction → Option Fraction
kept_within t d = cond (within t d) d None

-- The deviation of a polygon: 0/1, replaced in order by each deviation of its edges that is greater.
abbrev pub polygon_deviation : (ℕ → ℕ → Option Fraction) → List ℕ → Fraction
polygon_deviation of_edge vs = fold (λ old e. widened old (of_edge e.0 e.1)) nought (edges vs)
