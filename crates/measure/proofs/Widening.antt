-- The widest of fractions, one point further.
use Rattle.std.proofs.Common.{◌≡◌, ℕ, zero, suc, ◌+◌, ◌-◌, ◌*◌, ◌<◌, ◌≤◌, true, false, cond, not, ◌&&◌, ltb, List, ◌∷◌, Some, None, fold, Option, sym, refl, ap, ◌∙◌, subst, ⊎_elim, zero-mul, arith}
use Rattle.std.proofs.lemmas.Bool.{cases_Bool, cases_lt, both_ways, lt-ltb, le-ltb, and_from, not_from_true, not_from_false, cond_both, cond-true, cond-false}
use Rattle.outline.specs.Polygon.{edges}
use Rattle.measure.specs.declared.fraction.Fraction.{Fraction}
use Rattle.measure.specs.Deviation.{widest, deviation, within}
use Rattle.measure.specs.Fractions.{zero as nought, above, wider, widened}
use Rattle.measure.proofs.Order.{above_one_way, not_above_through}

-- a turn of the loop: s is what point k gives, and b the widest with it
pub widest_more : (f : ℕ → Option Fraction) (i k : ℕ) (a b : Fraction) (s : Option Fraction) → i < k → a ≡ widest f i (k - suc i) → s ≡ f k → b ≡ widened a s → b ≡ widest f i (k + 1 - suc i)
widest_more f i k a b s h e here next =
    let n = k - suc i in
    let there : k ≡ i + suc n = omega arith in
    let more : suc n ≡ k + 1 - suc i = omega arith in
    next ∙ ap (widened a) (here ∙ ap f there) ∙ ap (λ x. widened x (f (i + suc n))) e ∙ ap (widest f i) more

pub not_above_itself : (a : Fraction) → above a a ≡ false
not_above_itself a = le-ltb (a.top * a.bottom) (a.top * a.bottom) (omega arith)

pub nought_not_above : (a : Fraction) → above nought a ≡ false
nought_not_above a = le-ltb (a.top * 1) (0 * a.bottom) (rw zero-mul (omega arith))

pub wider_grows : (a b : Fraction) → above a (wider a b) ≡ false
wider_grows a b = cond_both (above b a) b a (λ x. above a x ≡ false) (above_one_way b a) (λ _. not_above_itself a)

pub wider_covers : (a b : Fraction) → above b (wider a b) ≡ false
wider_covers a b = cond_both (above b a) b a (λ x. above b x ≡ false) (λ _. not_above_itself b) (λ e. e)

pub widened_grows : (a : Fraction) (b : Option Fraction) → above a (widened a b) ≡ false
widened_grows a (Some b) = wider_grows a b
widened_grows a None = not_above_itself a

-- the widest over more points is not less
pub widest_grows : (f : ℕ → Option Fraction) (i m n : ℕ) → m ≤ n → above (widest f i m) (widest f i n) ≡ false
widest_grows f i m zero h = let e : m ≡ zero = omega arith in ap (λ k. above (widest f i k) nought) e ∙ not_above_itself nought
widest_grows f i m (suc n) h =
    ⊎_elim
    (λ l. not_above_through (widest f i m) (widest f i n) (widest f i (suc n)) (widest_grows f i m n (omega arith)) (widened_grows (widest f i n) (f (i + suc n))))
    (λ l. let e : m ≡ suc n = omega arith in ap (λ k. above (widest f i k) (widest f i (suc n))) e ∙ not_above_itself (widest f i (suc n)))
    (cases_lt m (suc n))

-- what is not less than a fraction above a third is above that too
pub above_carries : (a b t : Fraction) → above a t ≡ true → above a b ≡ false → above b t ≡ true
above_carries a b t high less =
    ⊎_elim (λ e. e) (λ e. absurd (both_ways (above a t) (not_above_through a b t less e) high)) (cases_Bool (above b t))

module _ (strays : ℕ → ℕ → ℕ → Option Fraction) (n i j : ℕ) (rises : i < j) (inside : j < n) where
  abbrev pub At : ℕ → Option Fraction
  At k = strays i k j

  -- after the last point between the ends the widest is the deviation
  pub deviation_all : (k : ℕ) (d : Fraction) → k ≡ j → d ≡ widest At i (k - suc i) → Some d ≡ deviation strays n i j
  deviation_all k d end e =
      ap Some (e ∙ ap (λ m. widest At i (m - suc i)) end)
      ∙ sym (cond-true (ltb i j && ltb j n) (Some (widest At i (j - suc i))) None (and_from (ltb i j) (ltb j n) (lt-ltb i j rises) (lt-ltb j n inside)))

  -- a deviation that is not above the tolerance is kept
  pub within_all : (k : ℕ) (d t : Fraction) → k ≡ j → d ≡ widest At i (k - suc i) → above d t ≡ false → Some d ≡ cond (within t (deviation strays n i j)) (deviation strays n i j) None
  within_all k d t end e low =
      let is = deviation_all k d end e in
      let P : Option Fraction → Type 0 = λ o. Some d ≡ cond (within t o) o None in
      subst P is (sym (cond-true (not (above d t)) (Some d) None (not_from_false (above d t) low)))

  -- a point past the tolerance takes the whole deviation past it
  pub within_past : (k : ℕ) (d t : Fraction) → k < j → d ≡ widest At i (k + 1 - suc i) → above d t ≡ true → None ≡ cond (within t (deviation strays n i j)) (deviation strays n i j) None
  within_past k d t l e high =
      let whole = widest At i (j - suc i) in
      let less : above d whole ≡ false = ap (λ x. above x whole) e ∙ widest_grows At i (k + 1 - suc i) (j - suc i) (omega arith) in
      let past : above whole t ≡ true = above_carries d whole t high less in
      let P : Option Fraction → Type 0 = λ o. None ≡ cond (within t o) o None in
      subst P (deviation_all j whole refl refl) (sym (cond-false (not (above whole t)) (Some whole) None (not_from_true (above whole t) past)))

-- what a polygon's deviation comes to from a vertex on, where it is a so far
abbrev pub onward : (ℕ → ℕ → Option Fraction) → Fraction → ℕ → List ℕ → Fraction
onward of_edge a i vs = fold (λ old e. widened old (of_edge e.0 e.1)) a (edges (i ∷ vs))
