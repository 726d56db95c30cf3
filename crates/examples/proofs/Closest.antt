-- What closest always answers where every polygon can be tried.
use Rattle.std.proofs.Common.{◌≡◌, ℕ, ◌-◌, Bool, true, false, not, ◌&&◌, ◌||◌, eqb, leb, List, [], ◌∷◌, length, is_some, Ok, Err, sym, refl, ap, ◌∙◌, subst, inl, inr, arith}
use Rattle.closest.proofs.Fitting.{made_again}
use Rattle.closest.specs.Closest.{Writes, Fits, Smallest, ClosestRule}
use Rattle.coding.specs.Tables.{Table}
use Rattle.measure.specs.Deviation.{edge_deviation, polygon_deviation}
use Rattle.measure.specs.Fractions.{fraction, above}
use Rattle.measure.specs.Measures.{Strays}
use Rattle.measure.specs.declared.fraction.Fraction.{Fraction}
use Rattle.outline.specs.Polygon.{edges}
use Rattle.outline.specs.declared.point.Point.{Point}
use Rattle.outline.specs.declared.refusal.Refusal.TheVariants.{OverBudget}
use Rattle.search.specs.Cheapest.{CheapestRule}
use Rattle.std.proofs.lemmas.Bool.{and_from, and_parts, both_ways, eqb-true, le-leb}
use Rattle.std.specs.List.{AllByRecursion}
use Rattle.weighing.specs.Edges.{edge_price, polygon_bits}
use Rattle.examples.proofs.Polygons.{every, every_polygon}
use Rattle.examples.specs.Answers.{Numbers, Always}

abbrev all_pass : {X : Type 0} → (X → Bool) → List X → Bool
all_pass p [] = true
all_pass p (x ∷ xs) = p x && all_pass p xs

all_passed : {X : Type 0} (p : X → Bool) (xs : List X) → AllByRecursion (λ x. p x ≡ true) xs → all_pass p xs ≡ true
all_passed p [] a = refl
all_passed p (x ∷ xs) a = and_from (p x) (all_pass p xs) a.0 (all_passed p xs a.1)

module _ (codes : Table) (strays : Strays) (ps : List Point) (budget : ℕ) where
  abbrev pub dev : List ℕ → Fraction
  dev vs = polygon_deviation (edge_deviation strays ps) vs

  abbrev pub fits : List ℕ → Bool
  fits vs = all_pass (λ e. is_some (edge_price codes ps e.0 e.1)) (edges vs) && leb (polygon_bits (edge_price codes ps) vs) budget

  fits_test : (vs : List ℕ) → Fits codes ps budget vs → fits vs ≡ true
  fits_test vs f = and_from _ _ (all_passed (λ e. is_some (edge_price codes ps e.0 e.1)) (edges vs) f.0.1) (le-leb _ _ f.1)

  -- no polygon fits
  module _ (vs : List ℕ) (writes : Writes codes ps vs) (none : every (λ us. not (fits us)) (length ps) (length ps - 1) [] ≡ true) where
    pub over_always : Always (length ps) (ClosestRule codes strays budget ps) (Err OverBudget)
    over_always rows rows_after list list_after (Ok a) room kept long h =
        let found = h.1.reached in
        let away : not (fits found.0) ≡ true = every_polygon (λ us. not (fits us)) (length ps) found.0 none found.1.0.0 in
        absurd (both_ways false refl (sym (ap not (fits_test found.0 found.1)) ∙ away))
    over_always rows rows_after list list_after (Err e) room kept long (inl h) = absurd (omega (arith, h.1))
    over_always rows rows_after list list_after (Err e) room kept long (inr (inl h)) = absurd (omega (arith, h.2))
    over_always rows rows_after list list_after (Err e) room kept long (inr (inr (inl h))) = absurd (h.2 vs writes)
    over_always rows rows_after list list_after (Err e) room kept long (inr (inr (inr h))) = ap Err h.0

  -- every polygon that fits deviates more than this one, or by its very numbers
  module _ (vs : List ℕ) (fit : Fits codes ps budget vs) (top bottom : ℕ) where
    abbrev no_better : Bool → Fraction → Bool
    no_better b x = not b || (above x (dev vs) || (eqb x.top top && eqb x.bottom bottom))

    no_better_is : (b : Bool) (x : Fraction) → b ≡ true → above x (dev vs) ≡ false → no_better b x ≡ true → (x.top ≡ top) × (x.bottom ≡ bottom)
    no_better_is false x b low h = absurd (both_ways false refl b)
    no_better_is true x b low h =
        let parts = and_parts (eqb x.top top) (eqb x.bottom bottom) (sym (ap (λ q. q || (eqb x.top top && eqb x.bottom bottom)) low) ∙ h) in
        (eqb-true x.top top parts.0, eqb-true x.bottom bottom parts.1)

    module _ (none : every (λ us. no_better (fits us) (dev us)) (length ps) (length ps - 1) [] ≡ true) where
      smallest_is : (d : Fraction) → Smallest codes strays ps budget d → (d.top ≡ top) × (d.bottom ≡ bottom)
      smallest_is d s =
          let found = s.reached in
          let us = found.0 in
          let tried = every_polygon (λ us. no_better (fits us) (dev us)) (length ps) us none found.1.0.0 in
          no_better_is (fits us) d (fits_test us found.1) (s.least vs fit) (subst (λ x. no_better (fits us) x ≡ true) found.2 tried)

      pub closest_always : (answer : Numbers) → Always (length ps) (CheapestRule codes strays (fraction top bottom) ps) answer → Always (length ps) (ClosestRule codes strays budget ps) answer
      closest_always answer always rows rows_after list list_after (Ok a) room kept long h =
          let is = smallest_is h.0 h.1 in
          always rows rows_after list list_after (Ok a) room kept long
          (subst (λ o. CheapestRule codes strays o ps rows rows_after list list_after (Ok a)) (sym (made_again h.0 top bottom (sym is.0) (sym is.1))) h.2)
      closest_always answer always rows rows_after list list_after (Err e) room kept long (inl h) = absurd (omega (arith, h.1))
      closest_always answer always rows rows_after list list_after (Err e) room kept long (inr (inl h)) = absurd (omega (arith, h.2))
      closest_always answer always rows rows_after list list_after (Err e) room kept long (inr (inr (inl h))) = absurd (h.2 vs fit.0)
      closest_always answer always rows rows_after list list_after (Err e) room kept long (inr (inr (inr h))) = absurd (omega (arith, h.2.1 vs fit.0, fit.1))
