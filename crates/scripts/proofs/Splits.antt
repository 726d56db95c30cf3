-- Numbers with a space after them.
use Rattle.std.proofs.Common.{◌≡◌, ℕ, suc, ◌^◌, ◌<◌, ◌≤◌, List, [], ◌∷◌, ◌++◌, length, get_or, Some, None, decimal, sym, refl, ap, ◌∙◌, arith, lit<, Bor}
use Rattle.std.proofs.lemmas.Fmt.{decimal_injective}
use Rattle.std.proofs.lemmas.Str.Pattern.{IsSplitOnceResult, split_after, split_parts}
use Rattle.scripts.specs.Numbers.{Reads, Splits, spaced}
use Rattle.scripts.proofs.Decimals.{no_space}

abbrev Spaceless : List ℕ → Type 0
Spaceless xs = (i : ℕ) → i < length xs → get_or xs i 0 ≡ 32 → ⊥

rest_spaceless : (a : ℕ) (xs : List ℕ) → Spaceless (a ∷ xs) → Spaceless xs
rest_spaceless a xs none i inside = none (suc i) (omega arith)

-- the first space parts a text in one way
parted : (xs ys x y : List ℕ) → Spaceless xs → Spaceless ys → xs ++ 32 ∷ x ≡ ys ++ 32 ∷ y → (xs ≡ ys) × (x ≡ y)
parted [] [] x y n m e = let same : x ≡ y = cc in (refl, same)
parted [] (b ∷ ys) x y n m e = let same : b ≡ 32 = cc in absurd (m 0 (omega arith) same)
parted (a ∷ xs) [] x y n m e = let same : a ≡ 32 = cc in absurd (n 0 (omega arith) same)
parted (a ∷ xs) (b ∷ ys) x y n m e =
    let first : a ≡ b = cc in
    let after : xs ++ 32 ∷ x ≡ ys ++ 32 ∷ y = cc in
    let rest = parted xs ys x y (rest_spaceless a xs n) (rest_spaceless b ys m) after in
    let front : xs ≡ ys = rest.0 in
    let whole : a ∷ xs ≡ b ∷ ys = cc in
    (whole, rest.1)

-- a text begins with one number and a space only
pub one_front : (t : List ℕ) (m n : ℕ) (x y : List ℕ) → m < 2 ^ 64 → n < 2 ^ 64 → t ≡ spaced m x → t ≡ spaced n y → (m ≡ n) × (x ≡ y)
one_front t m n x y sm sn e f =
    let both = parted (decimal m) (decimal n) x y (no_space m sm) (no_space n sn) (sym e ∙ f) in
    (decimal_injective m n sm sn both.0, both.1)

module _ {A : Type 0} (value : A → ℕ) (limit : ℕ) where
  pub no_split : limit ≤ 2 ^ 64 → (t : List ℕ) → IsSplitOnceResult 32 t None → Splits value limit t None
  no_split within t none n rest fits e = split_after 32 t (decimal (value n)) rest None none (lit< tt) e (no_space (value n) (omega arith))

  pub split_no_number : limit ≤ 2 ^ 64 → (t : List ℕ) (w r : Bor (List ℕ)) → IsSplitOnceResult 32 t (Some (w, r)) → Reads (λ n. decimal (value n)) (λ n. value n < limit) w.now None → Splits value limit t None
  split_no_number within t w r split none n rest fits e =
      let parts = split_after 32 t (decimal (value n)) rest (Some (w, r)) split (lit< tt) e (no_space (value n) (omega arith)) in
      none n fits parts.0

  pub split_number : (t : List ℕ) (w r : Bor (List ℕ)) (n : A) → IsSplitOnceResult 32 t (Some (w, r)) → Reads (λ m. decimal (value m)) (λ m. value m < limit) w.now (Some n) → Splits value limit t (Some (n, r))
  split_number t w r n split reads =
      let parts = split_parts 32 t (Some (w, r)) split (lit< tt) in
      (reads.0, parts.0 ∙ ap (λ (l : List ℕ). l ++ 32 ∷ r.now) reads.1)

-- what follows the first number, where another reading of the text begins with a number too
pub follows : (limit : ℕ) → limit ≤ 2 ^ 64 → (t : List ℕ) (n m : ℕ) (r : Bor (List ℕ)) (x : List ℕ) → Splits {A = ℕ} (λ k. k) limit t (Some (n, r)) → m < limit → t ≡ spaced m x → r.now ≡ x
follows limit within t n m r x split small e = (one_front t n m r.now x (omega (arith, split.0)) (omega arith) split.1 e).1
