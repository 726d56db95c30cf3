-- The tables of the five kinds of code.
use Rattle.std.specs.Prelude.{◌≡◌, ◌≢◌, ℕ, suc, ◌-◌, ◌/◌, ◌%◌, ◌^◌, Bool, true, false, cond, ◌&&◌, List, [], ◌∷◌, ◌++◌, length, ℤ, pos, negsuc, Some, None, Option, Result, MatchResult, ◌==◌, nat_le, nat_lt}
use Rattle.std.specs.Option.{option_map, option_flatten}
use Rattle.coding.specs.declared.kind.Kind.{Kind}
use Rattle.coding.specs.declared.kind.Kind.TheVariants.{Flat, Run, Axis, Chain, RunFlat}
use Rattle.outline.specs.declared.refusal.Refusal.{Refusal}
use Rattle.outline.specs.declared.refusal.Refusal.TheVariants.{Kind as UnknownKind}
use Rattle.coding.specs.Bits.{low_bits}
use Rattle.coding.specs.Directions.{along}
use Rattle.coding.specs.Tables.{Table, near}

-- The table that writes a displacement by its direction and its length.
abbrev pub by_direction : (ℕ → ℕ → Option (List Bool)) → Table
by_direction code x y = option_flatten (option_map (λ p. code p.0 p.1) (along x y))

-- Chain codes take one step of a direction: three bits of direction.
abbrev pub chain_code : ℕ → ℕ → Option (List Bool)
chain_code d l = cond (l == 1) (Some (low_bits 3 d)) None

-- Axis codes take 1 to 64 steps of direction 0, 2, 4 or 6: two bits of half the direction, six bits of the length less 1.
abbrev pub axis_code : ℕ → ℕ → Option (List Bool)
axis_code d l = cond (d % 2 == 0 && nat_le l 64) (Some (low_bits 2 (d / 2) ++ low_bits 6 (l - 1))) None

-- The whole part of the binary logarithm of a length of 1 to 15.
abbrev pub class : ℕ → ℕ
class l = cond (nat_lt l 2) 0 (cond (nat_lt l 4) 1 (cond (nat_lt l 8) 2 3))

-- Run codes take 1 to 15 steps: three bits of direction, two bits of the length's class c, and c bits of the length less 2 ^ c.
abbrev pub run_code : ℕ → ℕ → Option (List Bool)
run_code d l = cond (nat_le l 15) (Some (low_bits 3 d ++ low_bits 2 (class l) ++ low_bits (class l) (l - 2 ^ class l))) None

-- A whole number in n bits of two's complement.
abbrev pub twos : ℕ → ℤ → List Bool
twos n (pos x) = low_bits n x
twos n (negsuc x) = low_bits n (2 ^ n - suc x)

-- Flat codes write both numbers of every displacement in eleven bits of two's complement.
abbrev pub flat : Table
flat x y = cond (near x && near y) (Some (twos 11 x ++ twos 11 y)) None

-- A code of up to 31 bits, which leaves room for one bit more, or none.
abbrev pub roomy : Option (List Bool) → Option (List Bool)
roomy None = None
roomy (Some code) = cond (nat_le (length code) 31) (Some code) None

-- 0 and the first code, or 1 and the second: the shorter of the two, and the first at equal length.
abbrev pub either : Option (List Bool) → Option (List Bool) → Option (List Bool)
either None None = None
either None (Some b) = Some (true ∷ b)
either (Some a) None = Some (false ∷ a)
either (Some a) (Some b) = cond (nat_le (length a) (length b)) (Some (false ∷ a)) (Some (true ∷ b))

-- A pair of tables writes a displacement by the one or the other.
abbrev pub pair : Table → Table → Table
pair t u x y = either (roomy (t x y)) (roomy (u x y))

-- The table behind the first bit of a pair's code.
abbrev pub side : Bool → Table → Table → Table
side false t u = t
side true t u = u

-- The first bit of a pair's code and the length of what follows it.
abbrev pub marker : Option (List Bool) → Option (Bool × ℕ)
marker None = None
marker (Some []) = None
marker (Some (b ∷ bits)) = Some (b, length bits)

-- The number of each kind of code.
abbrev pub kind_number : Kind → ℕ
kind_number Flat = 1
kind_number Run = 2
kind_number Axis = 3
kind_number Chain = 4
kind_number RunFlat = 5

-- An answer is the kind of a number, or the refusal of a number that no kind has.
abbrev pub KindOf : ℕ → Result Kind Refusal → Type 0
KindOf number r = MatchResult r (λ k. kind_number k ≡ number) (λ e. (e ≡ UnknownKind) × ((k : Kind) → kind_number k ≢ number))

-- The table of each kind of code; the fifth is the pair of run and flat.
abbrev pub kind_table : Kind → Table
kind_table Flat = flat
kind_table Run = by_direction run_code
kind_table Axis = by_direction axis_code
kind_table Chain = by_direction chain_code
kind_table RunFlat = pair (by_direction run_code) flat
