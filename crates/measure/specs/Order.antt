-- What it means that fractions are ordered by their value.
use Rattle.std.specs.Prelude.{◌≡◌, ◌*◌, true, false}
use Rattle.measure.specs.declared.fraction.Fraction.{Fraction}
use Rattle.measure.specs.Fractions.{above}

-- Two fractions have the same value where their cross products are equal.
abbrev pub Equal : Fraction → Fraction → Type 0
Equal a b = a.top * b.bottom ≡ b.top * a.bottom

-- Of two fractions one is above the other, or they have the same value; this carries on from one to the next, and only values count.
pub record TotalOrder : Type 0 where
  pub one_way : (a b : Fraction) → above a b ≡ true → above b a ≡ false
  pub equal : (a b : Fraction) → above a b ≡ false → above b a ≡ false → Equal a b
  pub onward : (a b c : Fraction) → above a b ≡ false → above b c ≡ false → above a c ≡ false
  pub by_value : (a b c : Fraction) → Equal a b → (above a c ≡ above b c) × (above c a ≡ above c b)
