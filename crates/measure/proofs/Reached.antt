-- A deviation is 0/1 or one of the fractions that it is taken from, and none of them is above it.
use Rattle.std.proofs.Common.{◌≡◌, ℕ, zero, suc, ◌+◌, ◌-◌, ◌<◌, ◌≤◌, false, ◌&&◌, ltb, ◌⊎◌, List, [], ◌∷◌, length, get_or, Some, None, Option, sym, refl, ap, ◌∙◌, subst, inl, inr, ⊎_elim, arith}
use Rattle.std.proofs.lemmas.Bool.{cases_Bool, cases_lt, ltb-true, and_parts, cond_both, cond-true, cond-false}
use Rattle.measure.specs.declared.fraction.Fraction.{Fraction}
use Rattle.measure.specs.Deviation.{widest}
use Rattle.measure.specs.Fractions.{zero as nought, above, wider, widened}
use Rattle.measure.specs.Widest.{Widest, DeviationIsWidest, PolygonIsWidest}
use Rattle.measure.proofs.Order.{not_above_through}
use Rattle.measure.proofs.Widening.{not_above_itself, onward, wider_covers, widened_grows}

-- a widened fraction is the old or the new one
pub widened_is : (a : Fraction) (o : Option Fraction) → (widened a o ≡ a) ⊎ (o ≡ Some (widened a o))
widened_is a (Some b) = cond_both (above b a) b a (λ x. (x ≡ a) ⊎ (Some b ≡ Some x)) (λ _. inr refl) (λ _. inl refl)
widened_is a None = inl refl

-- and the new one is not above it
pub widened_covers : (a : Fraction) (o : Option Fraction) (x : Fraction) → o ≡ Some x → above x (widened a o) ≡ false
widened_covers a (Some b) x e = let same : b ≡ x = cc in ap (λ y. above y (wider a b)) (sym same) ∙ wider_covers a b
widened_covers a None x e = let z : ◌≡◌ {A = ℕ} 0 1 = cc in absurd (omega arith)

widest_reached : (f : ℕ → Option Fraction) (i n : ℕ) → (widest f i n ≡ nought) ⊎ ((k : ℕ) × ((i < k) × (k ≤ i + n)) × (f k ≡ Some (widest f i n)))
widest_reached f i zero = inl refl
widest_reached f i (suc n) =
    let P : Fraction → Type 0 = λ d. (d ≡ nought) ⊎ ((k : ℕ) × ((i < k) × (k ≤ i + suc n)) × (f k ≡ Some d)) in
    ⊎_elim
    (λ old. subst P (sym old) (⊎_elim inl (λ s. inr (s.0, (s.1.0, omega arith), s.2)) (widest_reached f i n)))
    (λ new. inr (i + suc n, (omega arith, omega arith), new))
    (widened_is (widest f i n) (f (i + suc n)))

widest_most : (f : ℕ → Option Fraction) (i n k : ℕ) (x : Fraction) → i < k → k ≤ i + n → f k ≡ Some x → above x (widest f i n) ≡ false
widest_most f i zero k x low high e = absurd (omega arith)
widest_most f i (suc n) k x low high e =
    ⊎_elim
    (λ l. not_above_through x (widest f i n) (widest f i (suc n)) (widest_most f i n k x low (omega arith) e) (widened_grows (widest f i n) (f (i + suc n))))
    (λ l. let here : k ≡ i + suc n = omega arith in widened_covers (widest f i n) (f (i + suc n)) x (ap f (sym here) ∙ e))
    (cases_lt k (i + suc n))

widest_is : (f : ℕ → Option Fraction) (i j : ℕ) (d : Fraction) → i < j → d ≡ widest f i (j - suc i) → Widest (λ k. (i < k) × (k < j)) f d
widest_is f i j d rises e = record {
  reached = ⊎_elim (λ z. inl (e ∙ z)) (λ s. inr (s.0, (s.1.0, omega arith), s.2 ∙ ap Some (sym e))) (widest_reached f i (j - suc i));
  most = λ k x h at. ap (above x) e ∙ widest_most f i (j - suc i) k x h.0 (omega arith) at;
}

pub deviation_is_widest : DeviationIsWidest
deviation_is_widest strays n i j d e =
    let test = ltb i j && ltb j n in
    let f : ℕ → Option Fraction = λ k. strays i k j in
    ⊎_elim
    (λ t.
    let is : Some (widest f i (j - suc i)) ≡ Some d = sym (cond-true test _ None t) ∙ e in
    let same : d ≡ widest f i (j - suc i) = cc in
    widest_is f i j d (ltb-true i j (and_parts (ltb i j) (ltb j n) t).0) same)
    (λ u. let no_edge : None ≡ Some d = sym (cond-false test (Some (widest f i (j - suc i))) None u) ∙ e in let z : ◌≡◌ {A = ℕ} 0 1 = cc in absurd (omega arith))
    (cases_Bool test)

module _ (of_edge : ℕ → ℕ → Option Fraction) where
  -- the deviation of the edge from place k of a list to the next
  abbrev Along : List ℕ → ℕ → Option Fraction
  Along vs k = of_edge (get_or vs k 0) (get_or vs (suc k) 0)

  onward_grows : (a : Fraction) (i : ℕ) (vs : List ℕ) → above a (onward of_edge a i vs) ≡ false
  onward_grows a i [] = not_above_itself a
  onward_grows a i (j ∷ vs) =
      let b = widened a (of_edge i j) in
      not_above_through a b (onward of_edge b j vs) (widened_grows a (of_edge i j)) (onward_grows b j vs)

  onward_reached : (a : Fraction) (i : ℕ) (vs : List ℕ) → (onward of_edge a i vs ≡ a) ⊎ ((k : ℕ) × (k < length vs) × (Along (i ∷ vs) k ≡ Some (onward of_edge a i vs)))
  onward_reached a i [] = inl refl
  onward_reached a i (j ∷ vs) =
      let b = widened a (of_edge i j) in
      ⊎_elim
      (λ here. ⊎_elim (λ old. inl (here ∙ old)) (λ new. inr (zero, omega arith, new ∙ ap Some (sym here))) (widened_is a (of_edge i j)))
      (λ s. inr (suc s.0, omega arith, s.2))
      (onward_reached b j vs)

  onward_most : (a : Fraction) (i : ℕ) (vs : List ℕ) (k : ℕ) (x : Fraction) → k < length vs → Along (i ∷ vs) k ≡ Some x → above x (onward of_edge a i vs) ≡ false
  onward_most a i [] k x l e = absurd (omega arith)
  onward_most a i (j ∷ vs) zero x l e =
      let b = widened a (of_edge i j) in
      not_above_through x b (onward of_edge b j vs) (widened_covers a (of_edge i j) x e) (onward_grows b j vs)
  onward_most a i (j ∷ vs) (suc k) x l e = onward_most (widened a (of_edge i j)) j vs k x (omega arith) e

pub polygon_is_widest : PolygonIsWidest
polygon_is_widest of_edge [] = record { reached = inl refl; most = λ k x h e. absurd (omega arith) }
polygon_is_widest of_edge (v ∷ vs) = record {
  reached = ⊎_elim inl (λ s. inr (s.0, omega arith, s.2)) (onward_reached of_edge nought v vs);
  most = λ k x h e. onward_most of_edge nought v vs k x (omega arith) e;
}
