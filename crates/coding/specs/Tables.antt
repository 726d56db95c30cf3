-- The table of codes that a coder stands for.
use Rattle.std.specs.Prelude.{◌≡◌, ℕ, ◌≤◌, Bool, false, ◌&&◌, List, length, ℤ, pos, negsuc, Some, None, Option, int_le}
use Rattle.std.specs.Option.{option_map}
use Rattle.coding.specs.Bits.{value, Begins}

-- A table of codes: to columns and rows a code, or none.
abbrev pub Table : Type 0
Table = ℤ → ℤ → Option (List Bool)

-- Whether a number is one of -1,023 to 1,023, as both numbers of a displacement are.
abbrev pub near : ℤ → Bool
near z = int_le (negsuc 1022) z && int_le z (pos 1023)

-- What a table of codes keeps: 1 to 32 bits, codes for displacements only, and no code the beginning of another.
pub record Codes (t : Table) : Type 0 where
  pub sized : (x y : ℤ) (code : List Bool) → t x y ≡ Some code → (1 ≤ length code) × (length code ≤ 32)
  pub displaced : (x y : ℤ) → (near x && near y) ≡ false → t x y ≡ None
  pub apart : (x y x' y' : ℤ) (code code' : List Bool) → t x y ≡ Some code → t x' y' ≡ Some code' → Begins code code' → (x ≡ x') × (y ≡ y')

-- The length of a code, or none.
abbrev pub price_of : Option (List Bool) → Option ℕ
price_of c = option_map length c

-- The number that a code spells with its length, or none.
abbrev pub spelled : Option (List Bool) → Option (ℕ × ℕ)
spelled c = option_map (λ bits. (value bits, length bits)) c

-- What a row of bits is read as: the displacement whose code begins it, with the code's length, or none where no code does.
abbrev pub Reads : Table → List Bool → Option (ℤ × ℤ × ℕ) → Type 0
Reads t row (Some d) = (code : List Bool) × (t d.0 d.1 ≡ Some code) × Begins code row × (d.2 ≡ length code)
Reads t row None = (x y : ℤ) (code : List Bool) → t x y ≡ Some code → Begins code row → ⊥
