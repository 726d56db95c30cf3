-- Codes put into bytes one after the other: a tail of fewer than eight bits behind whole bytes.
use Rattle.std.proofs.Common.{◌≡◌, ℕ, zero, suc, ◌+◌, ◌-◌, ◌*◌, ◌/◌, ◌%◌, ◌^◌, ◌<◌, ◌≤◌, Bool, false, eqb, List, [], ◌∷◌, ◌++◌, length, take, set, replicate, sym, refl, ap, ◌∙◌, subst, ap₂, append_assoc, mul-le-mul_right, suc-mul, arith, length-set}
use native.Mathlib.Nat.{zero-div}
use borrow.Rule.Slice.PartMut.{put_mid}
use Rattle.std.proofs.lemmas.Nat.{shr_high, shr-shr, shr_split, mod_below, pow_pos, shl_below, shl_whole, shr_below}
use Rattle.std.proofs.lemmas.List.{append-nil, take_more_set, take_all}
use Rattle.std.proofs.lemmas.Slice.{take-put_mid}
use Rattle.coding.specs.Bits.{low_bits, bits_of}
use Rattle.coding.specs.BitLists.{low_bits_add}

-- the bits of two numbers side by side
pub low_bits_join : (n m x y : ℕ) → y < 2 ^ m → low_bits (n + m) (x * 2 ^ m + y) ≡ low_bits n x ++ low_bits m y
low_bits_join zero m x y small =
    let z : x * 2 ^ m + y ≡ y + x * 2 ^ (m + 0) = omega (arith, ap (λ k. x * 2 ^ k) (plain m)) in
    let none : 0 + m ≡ m = omega arith in
    ap₂ low_bits none z ∙ low_bits_add m y x 0
  where
    plain : (k : ℕ) → k + 0 ≡ k
    plain k = omega arith
low_bits_join (suc n) m x y small =
    let z = x * 2 ^ m + y in
    let width : suc n + m ≡ suc (n + m) = omega arith in
    let order : n + m ≡ m + n = omega arith in
    let high : z / 2 ^ (n + m) ≡ x / 2 ^ n = ap (λ k. z / 2 ^ k) order ∙ sym (shr-shr z m n) ∙ ap (λ k. k / 2 ^ n) (shr_high x m y small) in
    ap (λ k. low_bits k z) width ∙ ap₂ (λ (b : Bool) (bs : List Bool). b ∷ bs) (ap (λ k. eqb (k % 2) 1) high) (low_bits_join n m x y small)

pub bits_of_append : (xs ys : List ℕ) → bits_of (xs ++ ys) ≡ bits_of xs ++ bits_of ys
bits_of_append [] ys = refl
bits_of_append (x ∷ xs) ys = ap (λ bs. low_bits 8 x ++ bs) (bits_of_append xs ys) ∙ sym (append_assoc (low_bits 8 x) (bits_of xs) (bits_of ys))

pub bits_of_push : (xs : List ℕ) (x : ℕ) → bits_of (xs ++ x ∷ []) ≡ bits_of xs ++ low_bits 8 x
bits_of_push xs x = bits_of_append xs (x ∷ []) ∙ ap (λ bs. bits_of xs ++ bs) (append-nil (low_bits 8 x))

-- one whole byte more, taken from the tail
pub byte_out : (body : List ℕ) (at bits len p q : ℕ) → p ≡ len - 8 → q ≡ 2 ^ p → 8 ≤ len → at < length body
    → bits_of (take (at + 1) (set body at (bits / 2 ^ p))) ++ low_bits p (bits % q) ≡ bits_of (take at body) ++ low_bits len bits
byte_out body at bits len p q less one long room =
    let x = bits / 2 ^ p in
    let y = bits % 2 ^ p in
    let width : 8 + p ≡ len = omega arith in
    let joined : low_bits 8 x ++ low_bits p y ≡ low_bits len bits =
    sym (low_bits_join 8 p x y (mod_below bits (2 ^ p) (pow_pos p))) ∙ ap₂ low_bits width (shr_split bits p) in
    ap₂ (λ a b. bits_of a ++ low_bits p (bits % b)) (take_more_set body at x room) one
    ∙ ap (λ bs. bs ++ low_bits p y) (bits_of_push (take at body) x)
    ∙ append_assoc (bits_of (take at body)) (low_bits 8 x) (low_bits p y)
    ∙ ap (λ bs. bits_of (take at body) ++ bs) joined

-- whole bytes put behind those so far
pub put_front : (body places : List ℕ) (at n k : ℕ) → n ≡ at + length places → at ≤ length body → bits_of (take n (put_mid at k body places)) ≡ bits_of (take at body) ++ bits_of places
put_front body places at n k e l = ap bits_of (take-put_mid at k body places n e l) ∙ bits_of_append (take at body) places

-- a code behind the tail
pub code_in : (front : List Bool) (bits len code width : ℕ) → bits < 2 ^ len → len + width ≤ 64 → code < 2 ^ width
    → front ++ low_bits (len + width) (bits * 2 ^ width % 2 ^ 64 + code) ≡ (front ++ low_bits len bits) ++ low_bits width code
code_in front bits len code width small few spelled =
    ap (λ z. front ++ low_bits (len + width) (z + code)) (shl_whole bits len width 64 small few)
    ∙ ap (λ bs. front ++ bs) (low_bits_join len width bits code spelled)
    ∙ sym (append_assoc front (low_bits len bits) (low_bits width code))

pub code_below : (bits len code width : ℕ) → bits < 2 ^ len → len + width ≤ 64 → code < 2 ^ width → bits * 2 ^ width % 2 ^ 64 + code < 2 ^ (len + width)
code_below bits len code width small few spelled =
    let whole = shl_whole bits len width 64 small few in
    omega (arith, mul_step, pow_add' len width)
  where
    pow_add' : (a b : ℕ) → 2 ^ (a + b) ≡ 2 ^ a * 2 ^ b
    pow_add' a b = Rattle.std.proofs.lemmas.Nat.pow-add 2 a b

    mul_step : bits * 2 ^ width + 2 ^ width ≤ 2 ^ len * 2 ^ width
    mul_step = omega (arith, mul-le-mul_right (2 ^ width) small, suc-mul bits (2 ^ width))

pub low_zero : (n : ℕ) → low_bits n 0 ≡ replicate n false
low_zero zero = refl
low_zero (suc n) = ap₂ (λ (b : Bool) (bs : List Bool). b ∷ bs) (ap (λ k. eqb (k % 2) 1) (zero_over (2 ^ n) (pow_pos n))) (low_zero n)
  where
    zero_over : (p : ℕ) → 0 < p → 0 / p ≡ 0
    zero_over p h = zero-div p

-- the last byte, filled up with zeros
pub last_byte : (body : List ℕ) (at bits len : ℕ) → bits < 2 ^ len → len < 8 → at + 1 ≡ length body
    → bits_of (set body at (bits * 2 ^ (8 - len) % 2 ^ 64)) ≡ (bits_of (take at body) ++ low_bits len bits) ++ replicate (8 - len) false
last_byte body at bits len small few end =
    let m = 8 - len in
    let x = bits * 2 ^ m in
    let eight : 8 ≡ len + m = omega arith in
    let same : x ≡ x + 0 = omega arith in
    let filled : low_bits 8 x ≡ low_bits len bits ++ replicate m false =
    ap₂ low_bits eight same ∙ low_bits_join len m bits 0 (pow_pos m) ∙ ap (λ bs. low_bits len bits ++ bs) (low_zero m) in
    ap (λ v. bits_of (set body at v)) (shl_whole bits len m 64 small (omega arith))
    ∙ ap bits_of (sym (take_all (at + 1) (set body at x) (omega (arith, length-set body at x))) ∙ take_more_set body at x (omega arith))
    ∙ bits_of_push (take at body) x
    ∙ ap (λ bs. bits_of (take at body) ++ bs) filled
    ∙ sym (append_assoc (bits_of (take at body)) (low_bits len bits) (replicate m false))

pub last_fits : (bits len : ℕ) → bits < 2 ^ len → len < 8 → bits * 2 ^ (8 - len) % 2 ^ 64 < 256
last_fits bits len small few =
    let eight : len + (8 - len) ≡ 8 = omega arith in
    omega (arith, shl_below bits len (8 - len) small, ap (λ k. 2 ^ k) eight, shl_whole bits len (8 - len) 64 small (omega arith))

-- no last byte is needed
pub all_whole : (body : List ℕ) (at bits len : ℕ) → len ≡ 0 → at ≡ length body → bits_of body ≡ (bits_of (take at body) ++ low_bits len bits) ++ []
all_whole body at bits len none end =
    ap bits_of (sym (take_all at body (omega arith)))
    ∙ sym (append-nil (bits_of (take at body)))
    ∙ ap (λ k. bits_of (take at body) ++ low_bits k bits) (sym none)
    ∙ sym (append-nil (bits_of (take at body) ++ low_bits len bits))

pub byte_fits : (bits len : ℕ) → 8 ≤ len → bits < 2 ^ len → bits / 2 ^ (len - 8) < 256
byte_fits bits len long small =
    let width : len ≡ 8 + (len - 8) = omega arith in
    shr_below bits 8 (len - 8) (subst (λ k. bits < 2 ^ k) width small)

pub tail_below : (bits p q : ℕ) → q ≡ 2 ^ p → bits % q < 2 ^ p
tail_below bits p q one = subst (λ k. bits % k < 2 ^ p) (sym one) (mod_below bits (2 ^ p) (pow_pos p))
