-- Axis codes.
use Rattle.std.specs.Prelude.{◌≡◌, ℕ, ◌+◌, ◌-◌, ◌*◌, ◌/◌, ◌%◌, ◌<◌, ◌≤◌, Bool, ◌&&◌, List, ◌++◌, length, take, Some, ◌==◌, nat_le, refl}
use Rattle.std.proofs.Common.{sym, ap, ap₂, ◌∙◌, arith}
use Rattle.std.proofs.lemmas.Bool.{and_from, and_parts, cond-true, eqb-true, eq-eqb, leb-true, le-leb}
use Rattle.coding.specs.Bits.{low_bits, Begins}
use Rattle.coding.specs.Kinds.{axis_code}
use Rattle.coding.specs.BitLists.{low_bits_one, low_bits_two}
use Rattle.coding.specs.Fields.{cond_some, begins_same, begins_from}
use Rattle.coding.specs.Legs.{Legs}
use Rattle.coding.specs.Views.{append_parts}

abbrev pub axis_bits : ℕ → ℕ → List Bool
axis_bits d l = low_bits 2 (d / 2) ++ low_bits 6 (l - 1)

pub axis_at : (d l : ℕ) → d % 2 ≡ 0 → l ≤ 64 → axis_code d l ≡ Some (axis_bits d l)
axis_at d l even short = cond-true (d % 2 == 0 && nat_le l 64) _ _ (and_from _ _ (eq-eqb (d % 2) 0 even) (le-leb l 64 short))

pub axis_is : (d l : ℕ) (code : List Bool) → axis_code d l ≡ Some code → (d % 2 ≡ 0) × (l ≤ 64) × (axis_bits d l ≡ code) × (length code ≡ 8)
axis_is d l code e =
    let parts = cond_some (d % 2 == 0 && nat_le l 64) (axis_bits d l) code e in
    let tests = and_parts (d % 2 == 0) (nat_le l 64) parts.0 in
    (eqb-true (d % 2) 0 tests.0, leb-true l 64 tests.1, parts.1, ap length (sym parts.1))

pub axis_legs : Legs axis_code
axis_legs =
    record {
      sized = λ d l code small some e. let is = axis_is d l code e in (omega (arith, is.3), omega (arith, is.3), omega (arith, is.1));
      apart = λ d l e m code code' small some small' some' p q b.
          let is = axis_is d l code p in
          let is' = axis_is e m code' q in
          let same = append_parts 2 (low_bits 2 (d / 2)) (low_bits 6 (l - 1)) (low_bits 2 (e / 2)) (low_bits 6 (m - 1)) refl refl (is.2 ∙ begins_same 8 code code' is.3 is'.3 b ∙ sym is'.2) in
          let half = low_bits_one 2 (d / 2) (e / 2) (omega arith) (omega arith) same.0 in
          let less = low_bits_one 6 (l - 1) (m - 1) (omega (arith, is.1)) (omega (arith, is'.1)) same.1 in
          (omega (arith, half, is.0, is'.0), omega (arith, less));
    }

-- eight bits of a row
pub axis_begins : (v : ℕ) (row : List Bool) → v < 256 → take 8 row ≡ low_bits 8 v → Begins (axis_bits (v / 64 * 2) (v % 64 + 1)) row
axis_begins v row small front =
    let half : v / 64 * 2 / 2 ≡ v / 64 = omega arith in
    let less : v % 64 + 1 - 1 ≡ v % 64 = omega arith in
    let whole : v / 64 * 64 + v % 64 ≡ v = omega arith in
    begins_from 8 (axis_bits (v / 64 * 2) (v % 64 + 1)) row refl
    (front ∙ ap (low_bits 8) (sym whole) ∙ sym (low_bits_two 2 6 (v / 64) (v % 64) (omega arith) (omega arith)) ∙ ap₂ (λ a b. low_bits 2 a ++ low_bits 6 b) (sym half) (sym less))
