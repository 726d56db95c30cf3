-- Words of the inner functions' contracts: no public one cites them.
use Rattle.std.specs.Prelude.{◌≡◌, ℕ, ◌<◌, Bool, true, false, cond, ◌&&◌, ◌⊎◌, List, Some, None, Option, nat_le, slice_index_or}
use Rattle.coding.specs.Tables.{Table}
use Rattle.cost.specs.declared.bits.Bits.{Bits}
use Rattle.cost.specs.declared.two_part.TwoPart.{TwoPart}
use Rattle.measure.specs.Deviation.{edge_deviation, polygon_deviation}
use Rattle.measure.specs.Fractions.{zero as nought, above}
use Rattle.measure.specs.Measures.{Strays}
use Rattle.measure.specs.declared.fraction.Fraction.{Fraction}
use Rattle.outline.specs.declared.point.Point.{Point}
use Rattle.std.specs.Option.{option_and}
use Rattle.weighing.specs.Edges.{edge_price}
use Rattle.weighing.specs.declared.deviation.Deviation.{Deviation}
use Rattle.closest.specs.Closest.{Fits}
use Rattle.closest.specs.declared.gap.Gap.{Gap}
use Rattle.closest.specs.declared.sample.Sample.{Sample}

-- The deviation reached, where its bits are not above the budget.
abbrev pub affordable : ℕ → Option (TwoPart Bits Deviation) → Option Fraction
affordable budget None = None
affordable budget (Some c) = cond (nat_le c.first.count budget) (Some c.second.value) None

-- Some polygon that fits has this deviation.
abbrev pub Reached : Table → Strays → List Point → ℕ → Fraction → Type 0
Reached codes strays ps budget d = (vs : List ℕ) × Fits codes ps budget vs × (polygon_deviation (edge_deviation strays ps) vs ≡ d)

-- Every polygon that fits deviates more than a tolerance.
abbrev pub TooLow : Table → Strays → List Point → ℕ → Fraction → Type 0
TooLow codes strays ps budget t = (us : List ℕ) → Fits codes ps budget us → above (polygon_deviation (edge_deviation strays ps) us) t ≡ true

-- A try at a tolerance reaches a deviation not above it, or the tolerance is too low.
abbrev pub Tried : Table → Strays → List Point → ℕ → Fraction → Option Fraction → Type 0
Tried codes strays ps budget t (Some d) = Reached codes strays ps budget d × (above d t ≡ false)
Tried codes strays ps budget t None = TooLow codes strays ps budget t

-- Whether a fraction is above one that may be missing.
abbrev pub past : Option Fraction → Fraction → Bool
past None d = true
past (Some low) d = above d low

-- Whether a fraction lies strictly inside a gap.
abbrev pub inside : Gap → Fraction → Bool
inside gap d = above gap.high d && past gap.low d

-- A deviation where it lies strictly inside a gap.
abbrev pub kept_inside : Gap → Option Fraction → Option Fraction
kept_inside gap (Some d) = cond (inside gap d) (Some d) None
kept_inside gap None = None

-- The deviation of an edge that has a price, where it lies strictly inside a gap.
abbrev pub candidate : Table → Strays → List Point → Gap → ℕ → ℕ → Option Fraction
candidate codes strays ps gap i j = option_and (edge_price codes ps i j) (kept_inside gap (edge_deviation strays ps i j))

-- The tolerance to try next is a candidate, where there is one.
abbrev pub Next : Table → Strays → List Point → Gap → Option Fraction → Type 0
Next codes strays ps gap (Some t) = (i : ℕ) × (j : ℕ) × (candidate codes strays ps gap i j ≡ Some t)
Next codes strays ps gap None = (i j : ℕ) → candidate codes strays ps gap i j ≡ None

-- One of the fractions that a sample keeps.
abbrev pub Among : Sample → Fraction → Type 0
Among s x = (k : ℕ) × (k < 15) × (x ≡ slice_index_or s.kept k nought)

-- Each fraction kept was kept before or is the new one.
abbrev pub Grown : Option Sample → Fraction → Sample → Type 0
Grown None new s = (k : ℕ) → k < 15 → slice_index_or s.kept k nought ≡ new
Grown (Some old) new s = (k : ℕ) → k < 15 → (slice_index_or s.kept k nought ≡ new) ⊎ (slice_index_or s.kept k nought ≡ slice_index_or old.kept k nought)

-- A sample keeps candidates alone, and there is one unless no edge to a point below `to`, or to `to` from a point below `from`, is a candidate.
abbrev pub Drawn : (ℕ → ℕ → Option Fraction) → ℕ → ℕ → Option Sample → Type 0
Drawn candidates to from None = (i j : ℕ) → i < j → (j < to) ⊎ ((j ≡ to) × (i < from)) → candidates i j ≡ None
Drawn candidates to from (Some s) = (k : ℕ) → k < 15 → (i : ℕ) × (j : ℕ) × (candidates i j ≡ Some (slice_index_or s.kept k nought))
