-- What a deviation is among the fractions that it is taken from.
use Rattle.std.specs.Prelude.{◌≡◌, ℕ, suc, ◌<◌, false, ◌⊎◌, List, length, Some, Option, slice_index}
use Rattle.measure.specs.declared.fraction.Fraction.{Fraction}
use Rattle.measure.specs.Deviation.{deviation, polygon_deviation}
use Rattle.measure.specs.Fractions.{zero as nought, above}

-- d is 0/1 or the fraction of one of some numbers, and no fraction of these is above it.
pub record Widest (Of : ℕ → Type 0) (f : ℕ → Option Fraction) (d : Fraction) : Type 0 where
  pub reached : (d ≡ nought) ⊎ ((k : ℕ) × Of k × (f k ≡ Some d))
  pub most : (k : ℕ) (x : Fraction) → Of k → f k ≡ Some x → above x d ≡ false

-- An edge's deviation is the widest over the points between its ends.
abbrev pub DeviationIsWidest : Type 0
DeviationIsWidest = (strays : ℕ → ℕ → ℕ → Option Fraction) (n i j : ℕ) (d : Fraction) → deviation strays n i j ≡ Some d → Widest (λ k. (i < k) × (k < j)) (λ k. strays i k j) d

-- A polygon's deviation is the widest over its edges.
abbrev pub PolygonIsWidest : Type 0
PolygonIsWidest = (of_edge : ℕ → ℕ → Option Fraction) (vs : List ℕ) → Widest (λ k. suc k < length vs) (λ k. of_edge (slice_index vs k) (slice_index vs (suc k))) (polygon_deviation of_edge vs)
