-- Numbers in words, up to a limit.
use Rattle.std.proofs.Common.{◌≡◌, ℕ, ◌+◌, ◌-◌, ◌*◌, ◌<◌, ◌≤◌, min, true, ◌&&◌, List, [], ◌∷◌, length, get_or, drop, sym, ap, ◌∙◌, ⊎_elim, arith}
use native.Mathlib.Nat.{min-eq_left, min-eq_right}
use Rattle.std.proofs.lemmas.List.{at_drop_more}
use Rattle.std.proofs.lemmas.Bool.{cases_lt}
use Rattle.std.specs.Char.{is_ascii_digit}
use Rattle.std.specs.Str.{all_ascii_digits}
use Rattle.exchange.specs.Words.{number_from}

number_grows : (n : ℕ) (cs : List ℕ) → n ≤ number_from n cs
number_grows n [] = omega arith
number_grows n (c ∷ cs) = let more = number_grows (10 * n + (c - 48)) cs in omega arith

-- past the limit it does not matter by how much
number_limited : (limit n : ℕ) (cs : List ℕ) → min (number_from n cs) limit ≡ min (number_from (min n limit) cs) limit
number_limited limit n cs =
    ⊎_elim
    (λ (below : n < limit). ap (λ m. min (number_from m cs) limit) (sym (min-eq_left (omega arith))))
    (λ (past : limit ≤ n).
    let grows = number_grows n cs in
    let also = number_grows limit cs in
    min-eq_right {n = limit} {m = number_from n cs} (omega arith)
    ∙ sym (min-eq_right {n = limit} {m = number_from limit cs} (omega arith))
    ∙ ap (λ m. min (number_from m cs) limit) (sym (min-eq_right past)))
    (cases_lt n limit)

-- a digit more
pub digit_more : (w : List ℕ) (i n m limit : ℕ) → i < length w → m ≡ min (min (n * 10) limit + (get_or w i 0 - 48)) limit
    → min (number_from 0 w) limit ≡ min (number_from n (drop i w)) limit → min (number_from 0 w) limit ≡ min (number_from m (drop (i + 1) w)) limit
digit_more w i n m limit l is so_far =
    let d = get_or w i 0 - 48 in
    let same : min (10 * n + d) limit ≡ m = omega arith in
    so_far ∙ at_drop_more (λ cs. min (number_from n cs) limit) w i 0 l
    ∙ number_limited limit (10 * n + d) (drop (i + 1) w)
    ∙ ap (λ k. min (number_from k (drop (i + 1) w)) limit) same

pub digits_more : (w : List ℕ) (i : ℕ) → i < length w → is_ascii_digit (get_or w i 0) ≡ true → all_ascii_digits w ≡ all_ascii_digits (drop i w) → all_ascii_digits w ≡ all_ascii_digits (drop (i + 1) w)
digits_more w i l digit so_far =
    so_far ∙ at_drop_more all_ascii_digits w i 0 l ∙ ap (λ b. b && all_ascii_digits (drop (i + 1) w)) digit
