-- Bits, high bits first.
use Rattle.std.specs.Prelude.{◌≡◌, ℕ, suc, ◌+◌, ◌/◌, ◌%◌, ◌^◌, Bool, cond, ◌&&◌, List, [], ◌∷◌, ◌++◌, length, take, Some, None, Option, ◌==◌, nat_le}

-- The low n bits of a number.
abbrev pub low_bits : ℕ → ℕ → List Bool
low_bits Prim.Native.Nat.zero x = []
low_bits (suc n) x = (x / 2 ^ n % 2 == 1) ∷ low_bits n x

-- The number that bits spell.
abbrev pub value : List Bool → ℕ
value [] = 0
value (b ∷ bs) = cond b (2 ^ length bs) 0 + value bs

-- The bits of bytes, eight to a byte.
abbrev pub bits_of : List ℕ → List Bool
bits_of [] = []
bits_of (x ∷ xs) = low_bits 8 x ++ bits_of xs

-- A row of bits begins with a code.
abbrev pub Begins : List Bool → List Bool → Type 0
Begins code row = take (length code) row ≡ code

-- The number that the first n bits of a row spell, where n is at most 32 and the row has as many, else none.
abbrev pub front_number : ℕ → List Bool → Option ℕ
front_number n row = cond (nat_le n 32 && nat_le n (length row)) (Some (value (take n row))) None
