-- What an `Option` and a list's places tell.
use Rattle.std.proofs.Common.{◌≡◌, ℕ, zero, suc, ◌<◌, List, [], ◌∷◌, length, take, Some, None, Option, sym, refl, ap, ◌∙◌, arith}
use Rattle.std.proofs.iter.runs.Lists.{none-some, same_Some}
use Rattle.std.specs.List.{slice_get}

module _ {A : Type 0} where
  pub not_both : (o : Option A) (x : A) → o ≡ None → o ≡ Some x → ⊥
  not_both o x n s = none-some x (sym n ∙ s)

  pub same_value : (o : Option A) (x y : A) → o ≡ Some x → o ≡ Some y → x ≡ y
  same_value o x y p q = same_Some x y (sym p ∙ q)

  pub nth_there : (xs : List A) (i : ℕ) → i < length xs → (x : A) × (slice_get xs i ≡ Some x)
  nth_there [] i l = absurd (omega arith)
  nth_there (x ∷ xs) zero l = (x, refl)
  nth_there (x ∷ xs) (suc i) l = nth_there xs i (omega arith)

  pub same_by_nth : (xs ys : List A) → ((i : ℕ) → slice_get xs i ≡ slice_get ys i) → xs ≡ ys
  same_by_nth [] [] e = refl
  same_by_nth [] (y ∷ ys) e = absurd (none-some y (e 0))
  same_by_nth (x ∷ xs) [] e = absurd (none-some x (sym (e 0)))
  same_by_nth (x ∷ xs) (y ∷ ys) e = ap (λ z. z ∷ xs) (same_Some x y (e 0)) ∙ ap (λ zs. y ∷ zs) (same_by_nth xs ys (λ i. e (suc i)))

  pub nth_take : (n : ℕ) (xs : List A) (i : ℕ) → i < n → slice_get (take n xs) i ≡ slice_get xs i
  nth_take zero xs i l = absurd (omega arith)
  nth_take (suc n) [] i l = refl
  nth_take (suc n) (x ∷ xs) zero l = refl
  nth_take (suc n) (x ∷ xs) (suc i) l = nth_take n xs i (omega arith)
