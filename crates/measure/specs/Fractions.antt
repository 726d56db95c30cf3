-- Fractions, and which of two is greater.
use Rattle.std.specs.Prelude.{ℕ, ◌-◌, ◌*◌, ◌^◌, ◌<◌, ◌≤◌, Bool, cond, Some, None, Ok, Err, Option, Result, nat_lt}
use Rattle.std.proofs.Math.Decide.{dec_lt, dec_le}
use Rattle.std.proofs.Common.{lit<, lit≤}
use Rattle.outline.specs.declared.refusal.Refusal.{Refusal}
use Rattle.outline.specs.declared.refusal.Refusal.TheVariants.{Tolerance}
use Rattle.measure.specs.declared.fraction.Fraction.{Fraction}

-- A top over a bottom, where the top is found below 2^40 and the bottom found from 1 to 2^20.
abbrev pub checked : (t b : ℕ) → Dec (t < 2 ^ 40) → Dec (1 ≤ b) → Dec (b ≤ 2 ^ 20) → Option Fraction
checked t b (yes s) (yes m) (yes f) = Some (record { top = t; bottom = b; small = s; some = m; few = f })
checked t b (yes s) (yes m) (no f) = None
checked t b (yes s) (no m) f = None
checked t b (no s) m f = None

-- The fraction of two numbers, where they are in bounds.
abbrev pub fraction : ℕ → ℕ → Option Fraction
fraction t b = checked t b (dec_lt t (2 ^ 40)) (dec_le 1 b) (dec_le b (2 ^ 20))

-- A fraction is taken, and none is refused.
abbrev pub taken : Option Fraction → Result Fraction Refusal
taken (Some f) = Ok f
taken None = Err Tolerance

-- 0/1.
abbrev pub zero : Fraction
zero = record { top = 0; bottom = 1; small = lit< tt; some = lit≤ tt; few = lit≤ tt }

-- The fraction of the largest value.
abbrev pub largest : Fraction
largest = record { top = 2 ^ 40 - 1; bottom = 1; small = lit< tt; some = lit≤ tt; few = lit≤ tt }

-- Whether the first fraction is greater than the second, by cross products.
abbrev pub above : Fraction → Fraction → Bool
above a b = nat_lt (b.top * a.bottom) (a.top * b.bottom)

-- The new fraction where it is greater, else the old one.
abbrev pub wider : Fraction → Fraction → Fraction
wider old new = cond (above new old) new old

-- The same for a fraction that may be missing.
abbrev pub widened : Fraction → Option Fraction → Fraction
widened old (Some new) = wider old new
widened old None = old
