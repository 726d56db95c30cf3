-- Run codes.
use Rattle.std.specs.Prelude.{◌≡◌, ℕ, zero, suc, ◌+◌, ◌-◌, ◌*◌, ◌/◌, ◌%◌, ◌^◌, ◌<◌, ◌≤◌, Bool, List, ◌++◌, length, take, drop, cond, Some, None, nat_le}
use Rattle.std.proofs.Common.{⊎_elim, sym, ap, ap₂, ◌∙◌, subst, subst₂, pow-suc, arith, take-add}
use Rattle.std.proofs.Math.Nat.{pow-le-pow_right}
use Rattle.std.specs.Bool.{then_some}
use Rattle.std.specs.Int.Count.{count_leading_zeros}
use Rattle.std.proofs.lemmas.Nat.{leading_top}
use Rattle.std.proofs.lemmas.List.{length-append, take_at, take-take}
use Rattle.std.proofs.lemmas.Bool.{cases_lt, cases_Bool, cond-true, cond-false, leb-true, le-leb}
use Rattle.coding.specs.Bits.{low_bits, value, Begins}
use Rattle.coding.specs.Kinds.{class, run_code}
use Rattle.coding.specs.BitLists.{length_low_bits, low_bits_one, low_bits_two, length_two, value_two, value_append, value_below, value_low}
use Rattle.coding.specs.Fields.{none-some, cond_some, begins_same, begins_from, begins_fits}
use Rattle.coding.specs.Legs.{Legs}
use Rattle.coding.specs.Views.{append_parts}

pub class_is : (c l : ℕ) → c < 4 → 2 ^ c ≤ l → l < 2 * 2 ^ c → class l ≡ c
class_is zero l few low high = grind arith
class_is (suc zero) l few low high = grind arith
class_is (suc (suc zero)) l few low high = grind arith
class_is (suc (suc (suc zero))) l few low high = grind arith
class_is (suc (suc (suc (suc c)))) l few low high = absurd (omega arith)

-- the class of a length, and the length's place in it
pub class_bounds : (l : ℕ) → 1 ≤ l → l ≤ 15 → (class l < 4) × (2 ^ class l ≤ l) × (l < 2 * 2 ^ class l)
class_bounds l some short =
    let at : (c : ℕ) → c < 4 → 2 ^ c ≤ l → l < 2 * 2 ^ c → (class l < 4) × (2 ^ class l ≤ l) × (l < 2 * 2 ^ class l) = λ c few low high. rw (class_is c l few low high) (few, low, high) in
    ⊎_elim
    (λ a. at 0 (omega arith) (omega arith) (omega arith))
    (λ a. ⊎_elim
    (λ b. at 1 (omega arith) (omega arith) (omega arith))
    (λ b. ⊎_elim
    (λ e. at 2 (omega arith) (omega arith) (omega arith))
    (λ e. at 3 (omega arith) (omega arith) (omega arith))
    (cases_lt l 8))
    (cases_lt l 4))
    (cases_lt l 2)

-- the leading zeros say the class
pub class_zeros : (l : ℕ) → 1 ≤ l → l ≤ 15 → 15 - count_leading_zeros 16 l ≡ class l
class_zeros l some short =
    let top = leading_top 16 l (omega arith) (omega arith) in
    let j = top.0 in
    let few : j < 4 = ⊎_elim (λ h. h) (λ h. absurd (omega (arith, pow-le-pow_right {n = 2} (omega arith) h, top.2))) (cases_lt j 4) in
    let is : class l ≡ j = class_is j l few top.2 (omega (arith, top.3, pow-suc 2 j)) in
    omega (arith, top.1, is)

-- the class by the leading zeros, where a run has the length
pub class_answer : (l : ℕ) → 1 ≤ l → then_some (nat_le l 15) (15 - count_leading_zeros 16 l) ≡ cond (nat_le l 15) (Some (class l)) None
class_answer l some =
    ⊎_elim
    (λ t. ap (λ b. then_some b (15 - count_leading_zeros 16 l)) t ∙ ap Some (class_zeros l some (leb-true l 15 t)) ∙ sym (cond-true (nat_le l 15) _ _ t))
    (λ f. ap (λ b. then_some b (15 - count_leading_zeros 16 l)) f ∙ sym (cond-false (nat_le l 15) _ _ f))
    (cases_Bool (nat_le l 15))

-- what the class of a length tells, or that there is none
pub class_told : (l k : ℕ) → Some k ≡ cond (nat_le l 15) (Some (class l)) None → (l ≤ 15) × (class l ≡ k)
class_told l k e = let parts = cond_some (nat_le l 15) (class l) k (sym e) in (leb-true l 15 parts.0, parts.1)

pub class_untold : (d l : ℕ) → None ≡ cond (nat_le l 15) (Some (class l)) None → run_code d l ≡ None
class_untold d l e =
    ⊎_elim
    (λ t. none-some (class l) (e ∙ cond-true (nat_le l 15) _ _ t))
    (λ f. cond-false (nat_le l 15) _ _ f)
    (cases_Bool (nat_le l 15))

abbrev pub run_bits : ℕ → ℕ → List Bool
run_bits d l = low_bits 3 d ++ low_bits 2 (class l) ++ low_bits (class l) (l - 2 ^ class l)

pub run_at : (d l : ℕ) → l ≤ 15 → run_code d l ≡ Some (run_bits d l)
run_at d l short = cond-true (nat_le l 15) _ _ (le-leb l 15 short)

pub run_is : (d l : ℕ) (code : List Bool) → run_code d l ≡ Some code → (l ≤ 15) × (run_bits d l ≡ code)
run_is d l code e = let parts = cond_some (nat_le l 15) (run_bits d l) code e in (leb-true l 15 parts.0, parts.1)

pub run_length : (d l : ℕ) → length (run_bits d l) ≡ 5 + class l
run_length d l =
    length-append (low_bits 3 d ++ low_bits 2 (class l)) (low_bits (class l) (l - 2 ^ class l))
    ∙ ap₂ ◌+◌ (length_two 3 2 d (class l)) (length_low_bits (class l) (l - 2 ^ class l))

pub run_value : (d l : ℕ) → d < 8 → 1 ≤ l → l ≤ 15 → value (run_bits d l) ≡ (d * 4 + class l) * 2 ^ class l + (l - 2 ^ class l)
run_value d l small some short =
    let place = class_bounds l some short in
    value_append (low_bits 3 d ++ low_bits 2 (class l)) (low_bits (class l) (l - 2 ^ class l))
    ∙ ap₂ ◌+◌ (ap₂ ◌*◌ (value_two 3 2 d (class l) small place.0) (ap (λ k. 2 ^ k) (length_low_bits (class l) (l - 2 ^ class l)))) (value_low (class l) (l - 2 ^ class l) (omega (arith, place)))

-- the five bits of the direction and the class, of a code that begins a row
pub run_head : (d l h : ℕ) (row : List Bool) → d < 8 → 1 ≤ l → l ≤ 15 → h < 32 → take 5 row ≡ low_bits 5 h → Begins (run_bits d l) row → d * 4 + class l ≡ h
run_head d l h row small some short fits front begins =
    let place = class_bounds l some short in
    let head = low_bits 3 d ++ low_bits 2 (class l) in
    let low = low_bits (class l) (l - 2 ^ class l) in
    let five : head ≡ take 5 row =
    sym (take_at head low 5 (length_two 3 2 d (class l))) ∙ ap (take 5) (sym begins) ∙ take-take 5 (length (run_bits d l)) row (omega (arith, run_length d l)) in
    low_bits_one 5 (d * 4 + class l) h (omega (arith, place.0)) fits (sym (low_bits_two 3 2 d (class l) small place.0) ∙ five ∙ front)

run_apart : (d l e m : ℕ) → d < 8 → 1 ≤ l → l ≤ 15 → e < 8 → 1 ≤ m → m ≤ 15 → Begins (run_bits d l) (run_bits e m) → (d ≡ e) × (l ≡ m)
run_apart d l e m small some short small' some' short' begins =
    let place = class_bounds l some short in
    let place' = class_bounds m some' short' in
    let head' = low_bits 3 e ++ low_bits 2 (class m) in
    let low' = low_bits (class m) (m - 2 ^ class m) in
    let front : take 5 (run_bits e m) ≡ low_bits 5 (e * 4 + class m) = take_at head' low' 5 (length_two 3 2 e (class m)) ∙ low_bits_two 3 2 e (class m) small' place'.0 in
    let heads = run_head d l (e * 4 + class m) (run_bits e m) small some short (omega (arith, place'.0)) front begins in
    let one : d ≡ e = omega (arith, heads, place.0, place'.0) in
    let alike : class l ≡ class m = omega (arith, heads, place.0, place'.0) in
    let same = begins_same (5 + class m) (run_bits d l) (run_bits e m) (omega (arith, run_length d l)) (run_length e m) begins in
    let lows = (append_parts 5 (low_bits 3 d ++ low_bits 2 (class l)) (low_bits (class l) (l - 2 ^ class l)) head' low' (length_two 3 2 d (class l)) (length_two 3 2 e (class m)) same).1 in
    let power : 2 ^ class l ≡ 2 ^ class m = ap (λ k. 2 ^ k) alike in
    let rest = low_bits_one (class m) (l - 2 ^ class l) (m - 2 ^ class m) (omega (arith, place, power)) (omega (arith, place')) (ap (λ k. low_bits k (l - 2 ^ class l)) (sym alike) ∙ lows) in
    (one, omega (arith, rest, power, place, place'))

pub run_legs : Legs run_code
run_legs =
    record {
      sized = λ d l code small some e.
          let is = run_is d l code e in
          let place = class_bounds l some is.0 in
          let long = ap length (sym is.1) ∙ run_length d l in
          (omega (arith, long), omega (arith, long, place.0), omega (arith, is.0));
      apart = λ d l e m code code' small some small' some' p q b.
          let is = run_is d l code p in
          let is' = run_is e m code' q in
          run_apart d l e m small some is.0 small' some' is'.0 (subst₂ Begins (sym is.1) (sym is'.1) b);
    }

-- five bits of a row and what they ask for more
module _ (row : List Bool) (h r : ℕ) (few : h < 32) (front : take 5 row ≡ low_bits 5 h) where
  pub run_class : r < 2 ^ (h % 4) → class (2 ^ (h % 4) + r) ≡ h % 4
  run_class small = class_is (h % 4) (2 ^ (h % 4) + r) (omega arith) (omega arith) (omega arith)

  pub run_begins : r < 2 ^ (h % 4) → take (h % 4) (drop 5 row) ≡ low_bits (h % 4) r → Begins (run_bits (h / 4) (2 ^ (h % 4) + r)) row
  run_begins small low =
      let c = h % 4 in
      let l = 2 ^ c + r in
      let is = run_class small in
      let whole : h / 4 * 4 + h % 4 ≡ h = omega arith in
      let rest : l - 2 ^ c ≡ r = omega arith in
      let head : take 5 row ≡ low_bits 3 (h / 4) ++ low_bits 2 c = front ∙ ap (low_bits 5) (sym whole) ∙ sym (low_bits_two 3 2 (h / 4) c (omega arith) (omega arith)) in
      let code : low_bits 3 (h / 4) ++ low_bits 2 c ++ low_bits c (l - 2 ^ c) ≡ run_bits (h / 4) l = ap (λ k. low_bits 3 (h / 4) ++ low_bits 2 k ++ low_bits k (l - 2 ^ k)) (sym is) in
      begins_from (5 + c) (run_bits (h / 4) l) row (run_length (h / 4) l ∙ ap (λ k. 5 + k) is)
      (take-add 5 c row ∙ ap₂ ◌++◌ head (low ∙ ap (low_bits c) (sym rest)) ∙ code)

  -- a row that ends before the bits that its class asks for
  pub run_ends : (d l : ℕ) (code : List Bool) → d < 8 → 1 ≤ l → run_code d l ≡ Some code → Begins code row → 5 + h % 4 ≤ length row
  run_ends d l code small some e begins =
      let is = run_is d l code e in
      let heads = run_head d l h row small some is.0 few front (subst (λ (c : List Bool). Begins c row) (sym is.1) begins) in
      let place = class_bounds l some is.0 in
      omega (arith, begins_fits code row begins, ap length (sym is.1) ∙ run_length d l, heads, place.0)

-- a run code has eight bits at most
pub run_small : (d l : ℕ) → d < 8 → 1 ≤ l → l ≤ 15 → (d * 4 + class l) * 2 ^ class l + (l - 2 ^ class l) < 256
run_small d l small some short =
    let place = class_bounds l some short in
    let wide : 5 + class l ≤ 8 = omega (arith, place.0) in
    let power : 2 ^ length (run_bits d l) ≡ 2 ^ (5 + class l) = ap (λ k. 2 ^ k) (run_length d l) in
    omega (arith, value_below (run_bits d l), run_value d l small some short, power, pow-le-pow_right {n = 2} (omega arith) wide)
