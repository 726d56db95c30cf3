-- Flat codes.
use Rattle.std.specs.Prelude.{◌≡◌, ℕ, suc, ◌+◌, ◌-◌, ◌*◌, ◌/◌, ◌%◌, ◌^◌, ◌<◌, ◌≤◌, Bool, true, false, ◌&&◌, List, ◌++◌, length, take, ℤ, pos, negsuc, ◌-ℤ◌, Some, FitsSigned, MatchOption, ◌≢◌, unsigned_abs, refl}
use Rattle.std.proofs.Common.{sym, ap, ap₂, ◌∙◌, arith, to_z, of_z}
use Rattle.std.specs.Bool.{then_some}
use Rattle.std.specs.Int.{w16, int_rem_euclid}
use Rattle.std.proofs.lemmas.List.{length-append}
use Rattle.std.proofs.lemmas.Int.{ints, to_z-of_z}
use Rattle.std.proofs.lemmas.Bool.{and_from, and_parts, cond-true, cond-false, leb-true, le-leb}
use Rattle.coding.specs.Bits.{low_bits, value, Begins}
use Rattle.coding.specs.Kinds.{twos, flat}
use Rattle.coding.specs.Tables.{near, Codes, Reads, spelled}
use Rattle.coding.specs.BitLists.{length_low_bits, low_bits_one, low_bits_two, value_two}
use Rattle.coding.specs.Fields.{cond_some, begins_same, begins_from}
use Rattle.coding.specs.Views.{append_parts}

pub near_bound : (z : ℤ) → near z ≡ true → unsigned_abs z ≤ 1023
near_bound (pos n) t = leb-true n 1023 t
near_bound (negsuc n) t = omega (arith, leb-true n 1022 (and_parts _ _ t).0)

-- the number of a number's eleven bits
abbrev pub field : ℤ → ℕ
field (pos n) = n
field (negsuc n) = 2048 - suc n

pub twos_field : (z : ℤ) → twos 11 z ≡ low_bits 11 (field z)
twos_field (pos n) = refl
twos_field (negsuc n) = refl

pub field_small : (z : ℤ) → near z ≡ true → (field z < 2048) × (field z ≢ 1024)
field_small (pos n) t = let b = near_bound (pos n) t in (omega arith, omega arith)
field_small (negsuc n) t = let b = near_bound (negsuc n) t in (omega arith, omega arith)

field_one : (z w : ℤ) → unsigned_abs z ≤ 1023 → unsigned_abs w ≤ 1023 → field z ≡ field w → z ≡ w
field_one (pos n) (pos m) p q e = ap pos e
field_one (pos n) (negsuc m) p q e = absurd (omega arith)
field_one (negsuc n) (pos m) p q e = absurd (omega arith)
field_one (negsuc n) (negsuc m) p q e = let s : n ≡ m = omega arith in ap negsuc s

pub twos_one : (z w : ℤ) → near z ≡ true → near w ≡ true → twos 11 z ≡ twos 11 w → z ≡ w
twos_one z w p q e =
    field_one z w (near_bound z p) (near_bound w q)
    (low_bits_one 11 (field z) (field w) (field_small z p).0 (field_small w q).0 (sym (twos_field z) ∙ e ∙ twos_field w))

pub length_twos : (z : ℤ) → length (twos 11 z) ≡ 11
length_twos z = ap length (twos_field z) ∙ length_low_bits 11 (field z)

abbrev pub flat_bits : ℤ → ℤ → List Bool
flat_bits x y = twos 11 x ++ twos 11 y

pub length_flat : (x y : ℤ) → length (flat_bits x y) ≡ 22
length_flat x y = length-append (twos 11 x) (twos 11 y) ∙ ap₂ ◌+◌ (length_twos x) (length_twos y)

pub flat_at : (x y : ℤ) → near x ≡ true → near y ≡ true → flat x y ≡ Some (flat_bits x y)
flat_at x y p q = cond-true (near x && near y) _ _ (and_from _ _ p q)

pub flat_is : (x y : ℤ) (code : List Bool) → flat x y ≡ Some code → (near x ≡ true) × (near y ≡ true) × (flat_bits x y ≡ code) × (length code ≡ 22)
flat_is x y code e =
    let parts = cond_some (near x && near y) (flat_bits x y) code e in
    let tests = and_parts (near x) (near y) parts.0 in
    (tests.0, tests.1, parts.1, ap length (sym parts.1) ∙ length_flat x y)

-- both halves of a code
pub flat_halves : (x y x' y' : ℤ) → flat_bits x y ≡ flat_bits x' y' → (twos 11 x ≡ twos 11 x') × (twos 11 y ≡ twos 11 y')
flat_halves x y x' y' e = append_parts 11 (twos 11 x) (twos 11 y) (twos 11 x') (twos 11 y') (length_twos x) (length_twos x') e

pub flat_codes : Codes flat
flat_codes =
    record {
      sized = λ x y code e. let is = flat_is x y code e in (omega (arith, is.3), omega (arith, is.3));
      displaced = λ x y far. cond-false (near x && near y) _ _ far;
      apart = λ x y x' y' code code' p q b.
          let is = flat_is x y code p in
          let is' = flat_is x' y' code' q in
          let halves = flat_halves x y x' y' (is.2 ∙ begins_same 22 code code' is.3 is'.3 b ∙ sym is'.2) in
          (twos_one x x' is.0 is'.0 halves.0, twos_one y y' is.1 is'.1 halves.1);
    }

pub flat_value : (x y : ℤ) (a b : ℕ) → a < 2048 → b < 2048 → low_bits 11 a ≡ twos 11 x → low_bits 11 b ≡ twos 11 y → a * 2048 + b ≡ value (flat_bits x y)
flat_value x y a b p q e f = sym (value_two 11 11 a b p q) ∙ ap value (ap₂ ◌++◌ e f)

-- the rest of a number by 2,048
pub field_rest : (z : ℤ) → near z ≡ true → int_rem_euclid z (pos 2048) ≡ pos (field z)
field_rest (pos n) t = let b = near_bound (pos n) t in ap pos (omega arith)
field_rest (negsuc n) t = let b = near_bound (negsuc n) t in ap pos (omega arith)

-- the answer of the field of a number
pub field_answer : (z : ℤ) (n : ℕ) (t : Bool) → t ≡ near z → (near z ≡ true → n ≡ field z) → MatchOption (then_some t n) (near z ≡ false) (λ m. (near z ≡ true) × (m < 2048) × (low_bits 11 m ≡ twos 11 z))
field_answer z n true is at =
    let here = at (sym is) in
    (sym is, omega (arith, here, (field_small z (sym is)).0), ap (low_bits 11) here ∙ sym (twos_field z))
field_answer z n false is at = sym is

-- 22 bits of a row
module _ (v : ℕ) (row : List Bool) (small : v < 2 ^ 22) (front : take 22 row ≡ low_bits 22 v) where
  halves : take 22 row ≡ low_bits 11 (v / 2048) ++ low_bits 11 (v % 2048)
  halves =
      let whole : v / 2048 * 2048 + v % 2048 ≡ v = omega arith in
      front ∙ ap (low_bits 22) (sym whole) ∙ sym (low_bits_two 11 11 (v / 2048) (v % 2048) (omega arith) (omega arith))

  pub flat_begins : (x y : ℤ) → twos 11 x ≡ low_bits 11 (v / 2048) → twos 11 y ≡ low_bits 11 (v % 2048) → Begins (flat_bits x y) row
  flat_begins x y p q = begins_from 22 (flat_bits x y) row (length_flat x y) (halves ∙ ap₂ ◌++◌ (sym p) (sym q))

  -- what begins the row has its two halves
  pub flat_fields : (x y : ℤ) (code : List Bool) → flat x y ≡ Some code → Begins code row → (near x ≡ true) × (twos 11 x ≡ low_bits 11 (v / 2048)) × (near y ≡ true) × (twos 11 y ≡ low_bits 11 (v % 2048))
  flat_fields x y code e begins =
      let is = flat_is x y code e in
      let same : flat_bits x y ≡ low_bits 11 (v / 2048) ++ low_bits 11 (v % 2048) = is.2 ∙ sym begins ∙ ap (λ k. take k row) is.3 ∙ halves in
      let parts = append_parts 11 (twos 11 x) (twos 11 y) (low_bits 11 (v / 2048)) (low_bits 11 (v % 2048)) (length_twos x) (length_low_bits 11 (v / 2048)) same in
      (is.0, parts.0, is.1, parts.1)

-- the bits of a number below zero
pub signed_high : (b : ℕ) → 1024 < b → b < 2048 → (near (to_z w16 (of_z w16 (to_z w16 b -ℤ pos 2048))) ≡ true) × (twos 11 (to_z w16 (of_z w16 (to_z w16 b -ℤ pos 2048))) ≡ low_bits 11 b)
signed_high b low high =
    let below : to_z w16 (of_z w16 (to_z w16 b -ℤ pos 2048)) ≡ negsuc (2047 - b) = omega (arith, ints) in
    let is : 2048 - suc (2047 - b) ≡ b = omega arith in
    (ap near below ∙ and_from _ _ (le-leb (2047 - b) 1022 (omega arith)) refl, ap (twos 11) below ∙ ap (low_bits 11) is)

near_fits : (z : ℤ) → near z ≡ true → FitsSigned w16 z
near_fits z t = let b = near_bound z t in omega (arith, ints)

pub flat_read : (v : ℕ) (row : List Bool) → v < 2 ^ 22 → take 22 row ≡ low_bits 22 v → (x y : ℤ) → near x ≡ true → near y ≡ true → twos 11 x ≡ low_bits 11 (v / 2048) → twos 11 y ≡ low_bits 11 (v % 2048)
    → Reads flat row (Some (to_z w16 (of_z w16 x), to_z w16 (of_z w16 y), 22))
flat_read v row small front x y p q e f =
    let same : flat (to_z w16 (of_z w16 x)) (to_z w16 (of_z w16 y)) ≡ flat x y = ap₂ flat (to_z-of_z w16 x (near_fits x p)) (to_z-of_z w16 y (near_fits y q)) in
    (flat_bits x y, same ∙ flat_at x y p q, flat_begins v row small front x y e f, sym (length_flat x y))

-- what code answers, from the two fields
pub flat_spelled : (x y : ℤ) (a b : ℕ) → near x ≡ true → near y ≡ true → a < 2048 → b < 2048 → low_bits 11 a ≡ twos 11 x → low_bits 11 b ≡ twos 11 y → Some (a * 2048 + b, 22) ≡ spelled (flat x y)
flat_spelled x y a b p q s t e f =
    ap₂ (λ (v n : ℕ). Some (v, n)) (flat_value x y a b s t e f) (sym (length_flat x y)) ∙ ap spelled (sym (flat_at x y p q))

-- the bits of -1,024 are no number's
pub no_lowest : (z : ℤ) → near z ≡ true → twos 11 z ≢ low_bits 11 1024
no_lowest z t e =
    let small = field_small z t in
    small.1 (low_bits_one 11 (field z) 1024 small.0 (omega arith) (sym (twos_field z) ∙ e))
