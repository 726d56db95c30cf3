-- Fractions made of numbers.
use Rattle.std.specs.Prelude.{◌≡◌, ℕ, ◌^◌, ◌<◌, ◌≤◌, Some}
use Rattle.std.proofs.Common.{ap, subst₂}
use Rattle.std.proofs.Math.Bridge.{le_prop}
use Rattle.std.proofs.Math.Decide.{dec_lt, dec_le}
use Rattle.measure.specs.declared.fraction.Fraction.{Fraction}
use Rattle.measure.specs.Fractions.{checked, fraction}

-- a fraction is what its numbers make of it
pub at_numbers : (t b : ℕ) (s s' : t < 2 ^ 40) (m m' : 1 ≤ b) (f f' : b ≤ 2 ^ 20)
    → ◌≡◌ {A = Fraction} (record { top = t; bottom = b; small = s; some = m; few = f }) (record { top = t; bottom = b; small = s'; some = m'; few = f' })
at_numbers t b s s' m m' f f' = λ i. record { top = t; bottom = b; small = le_prop s s' i; some = le_prop m m' i; few = le_prop f f' i }

-- the numbers are all that tells fractions apart
pub same_fraction : (x y : Fraction) → x.top ≡ y.top → x.bottom ≡ y.bottom → x ≡ y
same_fraction x y tops bottoms =
    let P : ℕ → ℕ → Type 0 = λ t b. (s : t < 2 ^ 40) (m : 1 ≤ b) (f : b ≤ 2 ^ 20) → x ≡ record { top = t; bottom = b; small = s; some = m; few = f } in
    subst₂ P tops bottoms (λ s m f. at_numbers x.top x.bottom x.small s x.some m x.few f) y.small y.some y.few

checked_is : (x : Fraction) (s : Dec (x.top < 2 ^ 40)) (m : Dec (1 ≤ x.bottom)) (f : Dec (x.bottom ≤ 2 ^ 20)) → Some x ≡ checked x.top x.bottom s m f
checked_is x (yes s) (yes m) (yes f) = ap Some (at_numbers x.top x.bottom x.small s x.some m x.few f)
checked_is x (yes s) (yes m) (no f) = absurd (f x.few)
checked_is x (yes s) (no m) f = absurd (m x.some)
checked_is x (no s) m f = absurd (s x.small)

-- the numbers of a fraction make that fraction
pub fraction_is : (x : Fraction) → Some x ≡ fraction x.top x.bottom
fraction_is x = checked_is x (dec_lt x.top (2 ^ 40)) (dec_le 1 x.bottom) (dec_le x.bottom (2 ^ 20))

-- numbers in bounds make one
pub fraction_some : (t b : ℕ) (s : t < 2 ^ 40) (m : 1 ≤ b) (f : b ≤ 2 ^ 20) → Some (record { top = t; bottom = b; small = s; some = m; few = f }) ≡ fraction t b
fraction_some t b s m f = fraction_is (record { top = t; bottom = b; small = s; some = m; few = f })
