-- Texts, and the numbers in them.
use Rattle.std.specs.Prelude.{◌≡◌, ℕ, ◌<◌, List, ◌∷◌, ◌++◌, Some, None, decimal, Option, ◌≢◌}
use Rattle.std.specs.Borrow.{Bor}

-- A text is read as a value that fits and is written so, or as none where it is the text of no such value.
abbrev pub Reads : {A : Type 0} → (A → List ℕ) → (A → Type 0) → List ℕ → Option A → Type 0
Reads written Fits text (Some a) = Fits a × (text ≡ written a)
Reads {A} written Fits text None = (a : A) → Fits a → text ≢ written a

-- A number in decimal, a space, and a text.
abbrev pub spaced : ℕ → List ℕ → List ℕ
spaced n rest = decimal n ++ 32 ∷ rest

-- Four numbers with a space between each two.
abbrev pub four_text : ℕ × ℕ × ℕ × ℕ → List ℕ
four_text p = spaced p.0 (spaced p.1 (spaced p.2 (decimal p.3)))

-- A number below a bound is split off with the space after it, and none where a text does not begin so.
abbrev pub Splits : {A : Type 0} → (A → ℕ) → ℕ → List ℕ → Option (A × Bor (List ℕ)) → Type 0
Splits value bound text (Some p) = (value p.0 < bound) × (text ≡ spaced (value p.0) p.1.now)
Splits {A} value bound text None = (n : A) (rest : List ℕ) → value n < bound → text ≢ spaced (value n) rest
