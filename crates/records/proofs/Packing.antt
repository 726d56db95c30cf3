-- Bits packed into bytes, and bytes into the front of a record.
use Rattle.std.proofs.Common.{◌≡◌, ℕ, zero, suc, ◌+◌, ◌-◌, ◌*◌, ◌/◌, ◌<◌, ◌≤◌, Bool, false, List, [], ◌∷◌, ◌++◌, length, get_or, take, drop, replicate, sym, refl, ap, ◌∙◌, ap₂, ⊎_elim, arith, length-append, length-drop, length-take}
use lib.ListN.{length-replicate}
use Rattle.std.proofs.lemmas.List.{get_or-replicate, get_or_past, get_or-take, get_or_default, same_lists, drop_at, drop-replicate, take-append-drop, take_at}
use Rattle.std.proofs.lemmas.Bool.{cases_lt}
use Rattle.coding.specs.Bits.{low_bits, value, bits_of}
use Rattle.coding.specs.BitLists.{length_low_bits, length_bits_of, value_low, low_bits_value}
use Rattle.records.specs.Bytes.{packed, bytes_of}

-- zeros after some bits read as nothing there
pub zeros_after : (bits : List Bool) (n k : ℕ) → get_or (bits ++ replicate n false) k false ≡ get_or bits k false
zeros_after [] n k =
    ⊎_elim (λ l. get_or-replicate n k false false l) (λ l. get_or_past (replicate n false) k false (simp length-replicate l)) (cases_lt k n)
zeros_after (b ∷ bits) n zero = refl
zeros_after (b ∷ bits) n (suc k) = zeros_after bits n k

-- rows with the same bits up to n, zeros past their ends, have the same front
front_same : (n : ℕ) (xs ys : List Bool) → n ≤ length xs → n ≤ length ys → ((k : ℕ) → get_or xs k false ≡ get_or ys k false) → take n xs ≡ take n ys
front_same n xs ys l m same =
    let lx : length (take n xs) ≡ n = simp length-take (omega arith) in
    let ly : length (take n ys) ≡ n = simp length-take (omega arith) in
    same_lists (take n xs) (take n ys) (lx ∙ sym ly)
    (λ k d h.
    let small : k < n = omega arith in
    get_or_default (take n xs) k d false h ∙ get_or-take n xs k false small ∙ same k ∙ sym (get_or-take n ys k false small) ∙ get_or_default (take n ys) k false d (omega arith))

drop_zeros : (n : ℕ) (bits : List Bool) (m : ℕ) → drop n (bits ++ replicate m false) ≡ drop n bits ++ replicate (m - (n - length bits)) false
drop_zeros zero bits m = ap (λ k. bits ++ replicate k false) (omega arith)
drop_zeros (suc n) [] m = drop-replicate (suc n) m false ∙ ap (λ k. replicate k false) (omega arith)
drop_zeros (suc n) (b ∷ bits) m = drop_zeros n bits m ∙ ap (λ k. drop n bits ++ replicate k false) (omega arith)

-- bytes whose bits are some bits and fewer than eight zeros are those bits packed
pub packed_back : (xs : List ℕ) (bits : List Bool) (pad : ℕ) → ((k : ℕ) → get_or xs k 0 < 256) → bits_of xs ≡ bits ++ replicate pad false → pad < 8 → packed (length xs) bits ≡ xs
packed_back [] bits pad small e few = refl
packed_back (x ∷ xs) bits pad small e few =
    let all : length bits + pad ≡ 8 + 8 * length xs = sym (length-append bits (replicate pad false) ∙ ap (λ n. length bits + n) (length-replicate pad false)) ∙ ap length (sym e) ∙ length-append (low_bits 8 x) (bits_of xs) ∙ ap₂ (λ a b. a + b) (length_low_bits 8 x) (length_bits_of xs) in
    let long : 8 ≤ length (bits ++ replicate 8 false) = simp (length-append, length-replicate) (omega arith) in
    let whole : 8 ≤ length (bits ++ replicate pad false) = simp (length-append, length-replicate) (omega arith) in
    let front : take 8 (bits ++ replicate 8 false) ≡ low_bits 8 x =
    front_same 8 (bits ++ replicate 8 false) (bits ++ replicate pad false) long whole (λ k. zeros_after bits 8 k ∙ sym (zeros_after bits pad k))
    ∙ ap (take 8) (sym e) ∙ take_at (low_bits 8 x) (bits_of xs) 8 (length_low_bits 8 x) in
    let first : value (take 8 (bits ++ replicate 8 false)) ≡ x = ap value front ∙ value_low 8 x (small 0) in
    let rest : bits_of xs ≡ drop 8 bits ++ replicate (pad - (8 - length bits)) false =
    sym (drop_at (low_bits 8 x) (bits_of xs) 8 (length_low_bits 8 x)) ∙ ap (drop 8) e ∙ drop_zeros 8 bits pad in
    ap₂ (λ a b. a ∷ b) first (packed_back xs (drop 8 bits) (pad - (8 - length bits)) (λ k. small (suc k)) rest (omega arith))

pub length_packed : (n : ℕ) (bits : List Bool) → length (packed n bits) ≡ n
length_packed zero bits = refl
length_packed (suc n) bits = ap suc (length_packed n (drop 8 bits))

-- the bytes of some codes, from the bytes that hold them with their padding
pub bytes_back : (xs : List ℕ) (bits : List Bool) (pad : ℕ) → ((k : ℕ) → get_or xs k 0 < 256) → bits_of xs ≡ bits ++ replicate pad false → pad < 8 → bytes_of bits ≡ xs
bytes_back xs bits pad small e few =
    let all : length bits + pad ≡ 8 * length xs = sym (length-append bits (replicate pad false) ∙ ap (λ n. length bits + n) (length-replicate pad false)) ∙ ap length (sym e) ∙ length_bits_of xs in
    let count : (length bits + 7) / 8 ≡ length xs = omega arith in
    ap (λ n. packed n bits) count ∙ packed_back xs bits pad small e few

-- packed bits are read back, with zeros up to the end of the last byte
pub unpacked : (n : ℕ) (bits : List Bool) → length bits ≤ 8 * n → bits_of (packed n bits) ≡ bits ++ replicate (8 * n - length bits) false
unpacked zero [] few = refl
unpacked zero (b ∷ bits) few = absurd (omega arith)
unpacked (suc n) bits few =
    let pad = 8 * suc n - length bits in
    let front = take 8 (bits ++ replicate 8 false) in
    let all = bits ++ replicate pad false in
    let long : 8 ≤ length (bits ++ replicate 8 false) = simp (length-append, length-replicate) (omega arith) in
    let whole : 8 ≤ length all = simp (length-append, length-replicate) (omega arith) in
    let eight : length front ≡ 8 = simp length-take (omega arith) in
    let first : low_bits 8 (value front) ≡ take 8 all =
    ap (λ k. low_bits k (value front)) (sym eight) ∙ low_bits_value front
    ∙ front_same 8 (bits ++ replicate 8 false) all long whole (λ k. zeros_after bits 8 k ∙ sym (zeros_after bits pad k)) in
    let less : length (drop 8 bits) ≡ length bits - 8 = length-drop 8 bits in
    let rest : bits_of (packed n (drop 8 bits)) ≡ drop 8 all =
    unpacked n (drop 8 bits) (omega arith) ∙ ap (λ k. drop 8 bits ++ replicate k false) (omega arith) ∙ sym (drop_zeros 8 bits pad) in
    ap₂ (λ a b. a ++ b) first rest ∙ take-append-drop 8 all

-- the bytes of some codes hold them and fewer than eight zeros
pub bytes_hold : (bits : List Bool) → (pad : ℕ) × (pad < 8) × (bits_of (bytes_of bits) ≡ bits ++ replicate pad false)
bytes_hold bits =
    let n = (length bits + 7) / 8 in
    (8 * n - length bits, omega arith, unpacked n bits (omega arith))
