-- The usable polygons are the paths to the last point, and cost what those cost.
use Rattle.std.proofs.Common.{◌≡◌, ℕ, suc, ◌-◌, ◌<◌, true, false, List, [], ◌∷◌, length, is_some, Some, None, fold, Option, refl, subst, arith}
use Rattle.cost.specs.Cost.{CostOf}
use Rattle.graph.specs.Paths.{cost_on, path_cost, PathTo}
use Rattle.graph.specs.Rows.{through}
use Rattle.outline.specs.Polygon.{Polygon, edges}
use Rattle.std.proofs.iter.runs.Lists.{none-some, same_Some}
use Rattle.std.proofs.lemmas.Bool.{both_ways}
use Rattle.std.specs.List.{AllByRecursion}
use Rattle.weighing.specs.Weights.{Usable, joined, polygon_cost}
use Rattle.search.proofs.Polygons.{rising_polygon, polygon_rising}

module _ {C W : Type 0} (k : CostOf C W) (weight : ℕ → ℕ → Option W) where
  -- every edge has a weight
  abbrev Weighed : List ℕ → Type 0
  Weighed vs = AllByRecursion (λ e. is_some (weight e.0 e.1) ≡ true) (edges vs)

  -- a cost joined with the weights of the edges
  abbrev joined_on : C → List ℕ → C
  joined_on c vs = fold (λ d e. joined k d (weight e.0 e.1)) c (edges vs)

  weighed_cost : (v : ℕ) (c : C) (vs : List ℕ) → Weighed (v ∷ vs) → cost_on k weight v c vs ≡ Some (joined_on c (v ∷ vs))
  weighed_cost v c [] a = refl
  weighed_cost v c (u ∷ vs) a = go (weight v u) a.0 (λ d. weighed_cost u d vs a.1)
    where
      go : (o : Option W) → is_some o ≡ true → ((d : C) → cost_on k weight u d vs ≡ Some (joined_on d (u ∷ vs))) →
          (elim (through k c o) as (λ _. Option C) [ None ↦ None | Some d ↦ cost_on k weight u d vs ]) ≡ Some (joined_on (joined k c o) (u ∷ vs))
      go None s h = absurd (both_ways false refl s)
      go (Some w) s h = h (k.join c w)

  cost_weighed : (v : ℕ) (c : C) (vs : List ℕ) (d : C) → cost_on k weight v c vs ≡ Some d → Weighed (v ∷ vs) × (joined_on c (v ∷ vs) ≡ d)
  cost_weighed v c [] d e = (tt, same_Some c d e)
  cost_weighed v c (u ∷ vs) d e = go (weight v u) (λ x. cost_weighed u x vs d) e
    where
      go : (o : Option W) → ((x : C) → cost_on k weight u x vs ≡ Some d → Weighed (u ∷ vs) × (joined_on x (u ∷ vs) ≡ d)) →
          (elim (through k c o) as (λ _. Option C) [ None ↦ None | Some x ↦ cost_on k weight u x vs ]) ≡ Some d →
          ((is_some o ≡ true) × Weighed (u ∷ vs)) × (joined_on (joined k c o) (u ∷ vs) ≡ d)
      go None h e = absurd (none-some d e)
      go (Some w) h e = let rest = h (k.join c w) e in ((refl, rest.0), rest.1)

  list_cost : (vs : List ℕ) → 0 < length vs → Weighed vs → path_cost k weight vs ≡ Some (polygon_cost k weight vs)
  list_cost [] l a = absurd (omega arith)
  list_cost (v ∷ vs) l a = weighed_cost v k.start vs a

  cost_list : (vs : List ℕ) (c : C) → path_cost k weight vs ≡ Some c → Weighed vs × (polygon_cost k weight vs ≡ c)
  cost_list [] c e = absurd (none-some c e)
  cost_list (v ∷ vs) c e = cost_weighed v k.start vs c e

  pub usable_path : (n : ℕ) (vs : List ℕ) → Usable weight n vs → PathTo k weight (n - 1) vs (polygon_cost k weight vs)
  usable_path n vs u = (polygon_rising u.0, list_cost vs u.0.some u.1)

  pub path_usable : (n : ℕ) (vs : List ℕ) (c : C) → 0 < n → PathTo k weight (n - 1) vs c → Usable weight n vs × (polygon_cost k weight vs ≡ c)
  path_usable n vs c some p =
      let last : suc (n - 1) ≡ n = omega arith in
      let so = cost_list vs c p.1 in
      ((subst (λ m. Polygon m vs) last (rising_polygon p.0), so.0), so.1)
