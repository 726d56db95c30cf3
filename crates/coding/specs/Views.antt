-- A part of a list: its length, an element of it, and what is left of it.
use Rattle.std.specs.Prelude.{◌≡◌, ℕ, ◌+◌, ◌-◌, ◌<◌, ◌≤◌, min, List, ◌++◌, length, take, drop, Some, None, slice_index_or}
use Rattle.std.proofs.Common.{⊎_elim, sym, ap, ◌∙◌, arith}
use Rattle.std.proofs.lemmas.List.{get_or-take, get_or-drop, length-take-le, length-drop, take_all, drop_all, drop-drop, drop-take, take_at, drop_at}
use Rattle.std.proofs.lemmas.Option.{slice_get-get_or, slice_get_past}
use Rattle.std.proofs.lemmas.Bool.{cases_lt}
use Rattle.std.specs.List.{slice_get}

pub length_view : {X : Type 0} (f n : ℕ) (xs : List X) → f + n ≤ length xs → length (take n (drop f xs)) ≡ n
length_view f n xs fits = length-take-le n (drop f xs) (rw (length-drop f xs) (omega arith))

pub nth_view : {X : Type 0} (f n k : ℕ) (xs : List X) (d : X) → f + n ≤ length xs → k < n → slice_get (take n (drop f xs)) k ≡ Some (slice_index_or xs (f + k) d)
nth_view f n k xs d fits inside =
    slice_get-get_or (take n (drop f xs)) k d (omega (arith, length_view f n xs fits))
    ∙ ap Some (get_or-take n (drop f xs) k d inside ∙ get_or-drop f xs k d)

pub nth_view_past : {X : Type 0} (f n k : ℕ) (xs : List X) → f + n ≤ length xs → n ≤ k → slice_get (take n (drop f xs)) k ≡ None
nth_view_past f n k xs fits past = slice_get_past (take n (drop f xs)) k (omega (arith, length_view f n xs fits))

-- what is left after k elements, or after all n
pub drop_view : {X : Type 0} (f n k m : ℕ) (xs : List X) → f + n ≤ length xs → m ≡ min k n → take (n - m) (drop (f + m) xs) ≡ drop k (take n (drop f xs))
drop_view f n k m xs fits least =
    ⊎_elim
    (λ low.
    let here : m ≡ k = omega arith in
    let whole : k + (n - k) ≡ n = omega arith in
    rw here (ap (take (n - k)) (sym (drop-drop k f xs)) ∙ sym (drop-take k (n - k) (drop f xs)) ∙ ap (λ j. drop k (take j (drop f xs))) whole))
    (λ high.
    let none : n - m ≡ 0 = omega arith in
    ap (λ j. take j (drop (f + m) xs)) none ∙ sym (drop_all k (take n (drop f xs)) (omega (arith, length_view f n xs fits))))
    (cases_lt k n)

-- the front of a list, as long as the list or as an end before it
pub take_min : {X : Type 0} (n end : ℕ) (xs : List X) → n ≡ min (length xs) end → take n xs ≡ take end xs
take_min n end xs least =
    ⊎_elim
    (λ low. take_all n xs (omega arith) ∙ sym (take_all end xs (omega arith)))
    (λ high. ap (λ j. take j xs) (omega arith))
    (cases_lt (length xs) end)

pub append_parts : {X : Type 0} (n : ℕ) (xs ys us vs : List X) → length xs ≡ n → length us ≡ n → xs ++ ys ≡ us ++ vs → (xs ≡ us) × (ys ≡ vs)
append_parts n xs ys us vs p q e =
    (sym (take_at xs ys n p) ∙ ap (take n) e ∙ take_at us vs n q, sym (drop_at xs ys n p) ∙ ap (drop n) e ∙ drop_at us vs n q)
