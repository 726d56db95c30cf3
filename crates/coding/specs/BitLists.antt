-- Lists of bits: lengths, a bit by its place, and the numbers that they spell.
use Rattle.std.specs.Prelude.{◌≡◌, ℕ, zero, suc, ◌+◌, ◌-◌, ◌*◌, ◌/◌, ◌%◌, ◌^◌, ◌<◌, Bool, true, false, cond, List, [], ◌∷◌, ◌++◌, length, get_or, ◌==◌, nat_eq, slice_index, slice_index_or, refl}
use Rattle.std.proofs.Common.{⊎_elim, sym, ap, ap₂, ◌∙◌, add-mul, mul_assoc, pow-suc, mod-eq_of_lt, arith}
use Rattle.std.proofs.Math.Nat.{add-mul-div_right}
use Rattle.std.proofs.lemmas.Nat.{mod-pow-add, pow-add, pow_pos, shr_high}
use Rattle.std.proofs.lemmas.List.{length-append, length_push, get_or_append_left, get_or-append_right}
use Rattle.std.proofs.lemmas.Bool.{cases_lt}
use Rattle.coding.specs.Bits.{low_bits, value, bits_of}

pub length_low_bits : (n x : ℕ) → length (low_bits n x) ≡ n
length_low_bits zero x = refl
length_low_bits (suc n) x = ap suc (length_low_bits n x)

pub length_bits_of : (xs : List ℕ) → length (bits_of xs) ≡ 8 * length xs
length_bits_of [] = refl
length_bits_of (x ∷ xs) = length-append (low_bits 8 x) (bits_of xs) ∙ omega (arith, length_bits_of xs)

-- a bit of a number, by its place among the low n
pub low_bit : (n x k : ℕ) (d : Bool) → k < n → slice_index_or (low_bits n x) k d ≡ (x / 2 ^ (n - 1 - k) % 2 == 1)
low_bit zero x k d h = absurd (omega arith)
low_bit (suc n) x zero d h = ap (λ j. nat_eq (x / 2 ^ j % 2) 1) (omega arith)
low_bit (suc n) x (suc k) d h = low_bit n x k d (omega arith) ∙ ap (λ j. nat_eq (x / 2 ^ j % 2) 1) (omega arith)

-- a bit of bytes, by its place
pub bit_of : (xs : List ℕ) (k : ℕ) (d : Bool) → k < 8 * length xs → slice_index_or (bits_of xs) k d ≡ (slice_index xs (k / 8) / 2 ^ (7 - k % 8) % 2 == 1)
bit_of [] k d h = absurd (omega arith)
bit_of (x ∷ xs) k d h =
    let n = length_low_bits 8 x in
    ⊎_elim
    (λ low.
    let here : k / 8 ≡ 0 = omega arith in
    let byte : get_or (x ∷ xs) (k / 8) 0 ≡ x = ap (λ i. slice_index (x ∷ xs) i) here in
    get_or_append_left (low_bits 8 x) (bits_of xs) d k (omega arith) ∙ low_bit 8 x k d low ∙ rw byte (ap (λ j. nat_eq (x / 2 ^ j % 2) 1) (omega arith)))
    (λ high.
    let there : k / 8 ≡ suc ((k - 8) / 8) = omega arith in
    let byte : get_or (x ∷ xs) (k / 8) 0 ≡ get_or xs ((k - 8) / 8) 0 = ap (λ i. slice_index (x ∷ xs) i) there in
    let place : 7 - k % 8 ≡ 7 - (k - 8) % 8 = omega arith in
    get_or-append_right (low_bits 8 x) (bits_of xs) 8 k d n high ∙ bit_of xs (k - 8) d (omega arith) ∙ rw (byte, place) refl)
    (cases_lt k 8)

pub value_push : (bs : List Bool) (b : Bool) → value (bs ++ b ∷ []) ≡ 2 * value bs + cond b 1 0
value_push [] true = refl
value_push [] false = refl
value_push (true ∷ bs) b =
    let n : length (bs ++ b ∷ []) ≡ suc (length bs) = length_push bs b ∙ omega arith in
    omega (arith, ap (λ k. 2 ^ k) n, pow-suc 2 (length bs), value_push bs b)
value_push (false ∷ bs) b = omega (arith, value_push bs b)

pub value_below : (bs : List Bool) → value bs < 2 ^ length bs
value_below [] = omega arith
value_below (true ∷ bs) = omega (arith, pow-suc 2 (length bs), value_below bs)
value_below (false ∷ bs) = omega (arith, pow-suc 2 (length bs), value_below bs)

pub value_low_bits : (n x : ℕ) → value (low_bits n x) ≡ x % 2 ^ n
value_low_bits zero x = omega arith
value_low_bits (suc n) x =
    let high : cond (x / 2 ^ n % 2 == 1) (2 ^ length (low_bits n x)) 0 ≡ (x / 2 ^ n % 2) * 2 ^ n = ap (λ k. cond (x / 2 ^ n % 2 == 1) (2 ^ k) 0) (length_low_bits n x) ∙ bit_times (x / 2 ^ n % 2) (2 ^ n) (omega arith) in
    let split : x % 2 ^ (1 + n) ≡ (x / 2 ^ n % 2) * 2 ^ n + x % 2 ^ n = mod-pow-add x 1 n in
    let width : 1 + n ≡ suc n = omega arith in
    ap₂ ◌+◌ high (value_low_bits n x) ∙ sym split ∙ ap (λ k. x % 2 ^ k) width
  where
    bit_times : (b p : ℕ) → b < 2 → cond (b == 1) p 0 ≡ b * p
    bit_times zero p h = omega arith
    bit_times (suc zero) p h = omega arith
    bit_times (suc (suc b)) p h = absurd (omega arith)

-- a number of n bits is what its bits spell
pub value_low : (n x : ℕ) → x < 2 ^ n → value (low_bits n x) ≡ x
value_low n x small = value_low_bits n x ∙ mod-eq_of_lt small

-- higher bits do not count
pub low_bits_add : (n x q j : ℕ) → low_bits n (x + q * 2 ^ (n + j)) ≡ low_bits n x
low_bits_add zero x q j = refl
low_bits_add (suc n) x q j =
    let width : suc n + j ≡ n + suc j = omega arith in
    let apart : q * 2 ^ (suc n + j) ≡ q * 2 ^ suc j * 2 ^ n = ap (λ k. q * 2 ^ k) (omega arith) ∙ ap (λ p. q * p) (pow-add 2 (suc j) n) ∙ sym (mul_assoc q (2 ^ suc j) (2 ^ n)) in
    let shifted : (x + q * 2 ^ (suc n + j)) / 2 ^ n ≡ x / 2 ^ n + q * 2 ^ suc j = ap (λ p. (x + p) / 2 ^ n) apart ∙ add-mul-div_right x (q * 2 ^ suc j) (pow_pos n) in
    let twice : q * 2 ^ suc j ≡ q * 2 ^ j * 2 = ap (λ p. q * p) (pow-suc 2 j) ∙ sym (mul_assoc q (2 ^ j) 2) in
    let bit : (x + q * 2 ^ (suc n + j)) / 2 ^ n % 2 ≡ x / 2 ^ n % 2 = ap (λ p. p % 2) shifted ∙ omega arith in
    ap₂ (λ (b : Bool) (bs : List Bool). b ∷ bs) (ap (λ p. nat_eq p 1) bit) (ap (λ k. low_bits n (x + q * 2 ^ k)) width ∙ low_bits_add n x q (suc j))

-- bits are those of the number that they spell
pub low_bits_value : (bs : List Bool) → low_bits (length bs) (value bs) ≡ bs
low_bits_value [] = refl
low_bits_value (b ∷ bs) =
    let n = length bs in
    let v = value bs in
    let sum : value (b ∷ bs) ≡ v + cond b 1 0 * 2 ^ (n + 0) = ap (λ p. p + v) (once b) ∙ omega (arith, ap (λ k. cond b 1 0 * 2 ^ k) (plain n)) in
    let top : nat_eq (value (b ∷ bs) / 2 ^ n % 2) 1 ≡ b = ap (λ p. nat_eq (p / 2 ^ n % 2) 1) (ap (λ p. p + v) (once b)) ∙ ap (λ p. nat_eq (p % 2) 1) (shr_high (cond b 1 0) n v (value_below bs)) ∙ back b in
    ap₂ (λ (c : Bool) (cs : List Bool). c ∷ cs) top (ap (low_bits n) sum ∙ low_bits_add n v (cond b 1 0) 0 ∙ low_bits_value bs)
  where
    once : (c : Bool) → cond c (2 ^ length bs) 0 ≡ cond c 1 0 * 2 ^ length bs
    once true = omega arith
    once false = omega arith

    back : (c : Bool) → (cond c 1 0 % 2 == 1) ≡ c
    back true = refl
    back false = refl

    plain : (k : ℕ) → k + 0 ≡ k
    plain k = omega arith

-- numbers of n bits with the same bits are the same
pub low_bits_one : (n x y : ℕ) → x < 2 ^ n → y < 2 ^ n → low_bits n x ≡ low_bits n y → x ≡ y
low_bits_one n x y p q e = sym (value_low n x p) ∙ ap value e ∙ value_low n y q

pub value_append : (xs ys : List Bool) → value (xs ++ ys) ≡ value xs * 2 ^ length ys + value ys
value_append [] ys = omega arith
value_append (false ∷ xs) ys = omega (arith, value_append xs ys)
value_append (true ∷ xs) ys =
    let wide : 2 ^ length (xs ++ ys) ≡ 2 ^ length xs * 2 ^ length ys = ap (λ k. 2 ^ k) (length-append xs ys) ∙ pow-add 2 (length xs) (length ys) in
    omega (arith, wide, value_append xs ys, add-mul (2 ^ length xs) (value xs) (2 ^ length ys))

-- the bits of two numbers after one another
pub value_two : (n m a b : ℕ) → a < 2 ^ n → b < 2 ^ m → value (low_bits n a ++ low_bits m b) ≡ a * 2 ^ m + b
value_two n m a b p q =
    value_append (low_bits n a) (low_bits m b)
    ∙ ap₂ ◌+◌ (ap₂ ◌*◌ (value_low n a p) (ap (λ k. 2 ^ k) (length_low_bits m b))) (value_low m b q)

pub length_two : (n m a b : ℕ) → length (low_bits n a ++ low_bits m b) ≡ n + m
length_two n m a b = length-append (low_bits n a) (low_bits m b) ∙ ap₂ ◌+◌ (length_low_bits n a) (length_low_bits m b)

pub low_bits_two : (n m a b : ℕ) → a < 2 ^ n → b < 2 ^ m → low_bits n a ++ low_bits m b ≡ low_bits (n + m) (a * 2 ^ m + b)
low_bits_two n m a b p q =
    sym (low_bits_value (low_bits n a ++ low_bits m b)) ∙ ap₂ low_bits (length_two n m a b) (value_two n m a b p q)
