-- A row of bits: its length, and the numbers at its front.
use Rattle.std.specs.Prelude.{◌≡◌, ℕ, ◌+◌, ◌*◌, ◌^◌, ◌<◌, ◌≤◌, Bool, true, false, cond, ◌&&◌, ◌⊎◌, List, length, get_or, take, Some, None, nat_le, slice_index_or, refl}
use Rattle.std.proofs.Common.{⊎_elim, sym, ap, ◌∙◌, arith, length-take}
use Rattle.std.proofs.Math.Nat.{pow-le-pow_right}
use Rattle.std.proofs.lemmas.List.{take_all, take_more, length-take-le}
use Rattle.std.proofs.lemmas.Option.{slice_get-get_or}
use Rattle.std.proofs.lemmas.Bool.{cases_lt, and_from, and_left, and_right, and_parts, cases_Bool, cond-true, cond-false, le-leb, lt-leb, leb-true}
use Rattle.std.specs.List.{slice_get}
use Rattle.coding.specs.declared.bit_row.BitRow.{BitRow}
use Rattle.coding.specs.Bits.{bits_of, value, low_bits, Begins, front_number}
use Rattle.coding.specs.Rows.{row_bits}
use Rattle.coding.specs.BitLists.{length_bits_of, value_push, value_below, low_bits_value}
use Rattle.coding.specs.Views.{length_view}

pub row_length : (r : BitRow) → length (row_bits r) ≡ r.len
row_length r = length_view r.from r.len (bits_of r.bytes.now) (omega (arith, length_bits_of r.bytes.now, r.inside))

pub none-some : {X : Type 0} {P : Type 0} (x : X) → None ≡ Some x → P
none-some x e = let z : ◌≡◌ {A = ℕ} 0 1 = cc in absurd (omega arith)

pub number_none : (n : ℕ) (row : List Bool) → (32 < n) ⊎ (length row < n) → front_number n row ≡ None
number_none n row past =
    let off : (nat_le n 32 && nat_le n (length row)) ≡ false = ⊎_elim (λ h. and_left (nat_le n 32) _ (lt-leb n 32 h)) (λ h. and_right (nat_le n 32) _ (lt-leb n (length row) h)) past in
    cond-false (nat_le n 32 && nat_le n (length row)) _ _ off

pub number_some : (n : ℕ) (row : List Bool) → n ≤ 32 → n ≤ length row → front_number n row ≡ Some (value (take n row))
number_some n row few fits = cond-true (nat_le n 32 && nat_le n (length row)) _ _ (and_from _ _ (le-leb n 32 few) (le-leb n (length row) fits))

-- what a number at the front says of the row
pub number_is : (n : ℕ) (row : List Bool) (v : ℕ) → front_number n row ≡ Some v → (n ≤ length row) × (v < 2 ^ n) × (take n row ≡ low_bits n v)
number_is n row v e =
    ⊎_elim
    (λ t.
    let parts = and_parts (nat_le n 32) (nat_le n (length row)) t in
    let fits : n ≤ length row = leb-true n (length row) parts.1 in
    let s : Some (value (take n row)) ≡ Some v = sym (cond-true (nat_le n 32 && nat_le n (length row)) _ _ t) ∙ e in
    let same : value (take n row) ≡ v = cc in
    let width : length (take n row) ≡ n = length-take-le n row fits in (
      fits,
      rw (← same) (rw (← ap (λ k. 2 ^ k) width) (value_below (take n row))),
      sym (low_bits_value (take n row)) ∙ ap (λ k. low_bits k (value (take n row))) width ∙ ap (low_bits n) same,
    ))
    (λ f. none-some v (sym (cond-false (nat_le n 32 && nat_le n (length row)) _ _ f) ∙ e))
    (cases_Bool (nat_le n 32 && nat_le n (length row)))

pub number_short : (n : ℕ) (row : List Bool) → n ≤ 32 → front_number n row ≡ None → length row < n
number_short n row few e =
    ⊎_elim
    (λ low. low)
    (λ high. none-some (value (take n row)) (sym e ∙ number_some n row few high))
    (cases_lt (length row) n)

-- one bit more
pub value_more : (row : List Bool) (k v : ℕ) (b : Bool) → k < length row → v ≡ value (take k row) → slice_get row k ≡ Some b → 2 * v + cond b 1 0 ≡ value (take (k + 1) row)
value_more row k v b inside is bit =
    let s : Some (slice_index_or row k false) ≡ Some b = sym (slice_get-get_or row k false inside) ∙ bit in
    let here : get_or row k false ≡ b = cc in
    let whole : value (take (k + 1) row) ≡ 2 * value (take k row) + cond b 1 0 = ap value (take_more row k false inside) ∙ value_push (take k row) (slice_index_or row k false) ∙ ap (λ c. 2 * value (take k row) + cond c 1 0) here in
    omega arith

pub value_bound : (row : List Bool) (k n : ℕ) → k ≤ n → k ≤ length row → value (take k row) < 2 ^ n
value_bound row k n few fits =
    let width : 2 ^ length (take k row) ≡ 2 ^ k = ap (λ j. 2 ^ j) (length-take-le k row fits) in
    omega (arith, value_below (take k row), pow-le-pow_right {n = 2} (omega arith) few)

-- a row that begins with a code has as many bits
pub begins_fits : (code row : List Bool) → Begins code row → length code ≤ length row
begins_fits code row b = omega (arith, ap length b, length-take (length code) row)

pub begins_from : (n : ℕ) (code row : List Bool) → length code ≡ n → take n row ≡ code → Begins code row
begins_from n code row long front = ap (λ k. take k row) long ∙ front

-- codes of one length
pub begins_same : (n : ℕ) (code other : List Bool) → length code ≡ n → length other ≡ n → Begins code other → code ≡ other
begins_same n code other long same b = sym b ∙ take_all (length code) other (omega arith)

pub cond_some : {X : Type 0} (t : Bool) (x y : X) → cond t (Some x) None ≡ Some y → (t ≡ true) × (x ≡ y)
cond_some true x y e = (refl, cc)
cond_some false x y e = none-some y e
