-- The front of a long list shows the polygon that the list begins with.
use Rattle.std.proofs.Common.{◌≡◌, ℕ, ◌-◌, ◌≤◌, List, ◌++◌, length, take, replicate, Some, None, Ok, Err, Option, Result, sym, ap, ◌∙◌, subst, ⊎_elim, arith, length-take}
use Rattle.closest.specs.Closest.{ClosestBest, ClosestOf}
use Rattle.coding.specs.Tables.{Table}
use Rattle.cost.specs.Cost.{CostOf}
use Rattle.measure.specs.Deviation.{edge_deviation, polygon_deviation}
use Rattle.measure.specs.Measures.{Strays}
use Rattle.measure.specs.declared.fraction.Fraction.{Fraction}
use Rattle.outline.specs.Polygon.{Polygon}
use Rattle.outline.specs.declared.point.Point.{Point}
use Rattle.outline.specs.declared.refusal.Refusal.{Refusal}
use Rattle.replay.specs.Runs.{front}
use Rattle.search.proofs.Polygons.{polygon_rising, rising_short}
use Rattle.search.specs.Best.{Best, BestAnswered}
use Rattle.search.specs.Cheapest.{CheapestBest, OwnDeviation, finest_found}
use Rattle.search.specs.declared.Found.{Found}
use Rattle.search.specs.declared.by_price.PricedPolygon.{PricedPolygon}
use Rattle.search.specs.declared.by_straying.StrayingPolygon.{StrayingPolygon}
use Rattle.std.proofs.lemmas.List.{append-nil, take-take, take_all}
use Rattle.std.proofs.lemmas.Bool.{cases_lt}
use Rattle.weighing.specs.Deviations.{deviation_cost}
use Rattle.weighing.specs.Weighers.{straying_weight}

front_long : (list : List ℕ) → 256 ≤ length list → front list ≡ take 256 list
front_long list l =
    let none : 256 - length list ≡ 0 = omega arith in
    ap (λ n. take 256 list ++ replicate n 0) none ∙ append-nil (take 256 list)

polygon_few : (n : ℕ) (vs : List ℕ) → Polygon n vs → length vs ≤ n
polygon_few n vs p = let some = p.last in omega (arith, rising_short (polygon_rising p))

same_front : (n v : ℕ) (list : List ℕ) → n ≤ 256 → 256 ≤ length list → Polygon n (take v list) → take v list ≡ take v (front list)
same_front n v list few l p =
    let short = polygon_few n (take v list) p in
    let long = length-take v list in
    ⊎_elim
    (λ k. let whole : length list ≤ 256 = omega arith in ap (take v) (sym (take_all 256 list whole) ∙ sym (front_long list l)))
    (λ k. sym (take-take v 256 list k) ∙ ap (take v) (sym (front_long list l)))
    (cases_lt 256 v)

module _ (list : List ℕ) (l : 256 ≤ length list) where
  pub best_shown : {C W : Type 0} (k : CostOf C W) (weight : ℕ → ℕ → Option W) (n : ℕ) (r : Result (Found C) Refusal) → n ≤ 256 → BestAnswered k weight n list r → BestAnswered k weight n (front list) r
  best_shown k weight n (Ok a) few b = subst (λ vs. Best k weight n vs a.cost) (same_front n a.vertices list few l b.usable.0) b
  best_shown k weight n (Err e) few b = b

  pub finest_shown : (codes : Table) (strays : Strays) (ps : List Point) (r : Result StrayingPolygon Refusal) → length ps ≤ 256 → BestAnswered deviation_cost (straying_weight codes strays ps) (length ps) list (finest_found r) → OwnDeviation strays ps list r → OwnDeviation strays ps (front list) r
  finest_shown codes strays ps (Ok a) few b o = subst (λ vs. a.deviation ≡ polygon_deviation (edge_deviation strays ps) vs) (same_front (length ps) a.vertices list few l b.usable.0) o
  finest_shown codes strays ps (Err e) few b o = o

  pub cheapest_shown : (codes : Table) (strays : Strays) (f : Option Fraction) (ps : List Point) (r : Result PricedPolygon Refusal) → length ps ≤ 256 → CheapestBest codes strays f ps list r → CheapestBest codes strays f ps (front list) r
  cheapest_shown codes strays None ps r few b = b
  cheapest_shown codes strays (Some f) ps (Err e) few b = b
  cheapest_shown codes strays (Some f) ps (Ok a) few b =
      let same = same_front (length ps) a.vertices list few l b.0.usable.0 in
      simp (sym same) b

  pub closest_shown : (codes : Table) (strays : Strays) (budget : ℕ) (ps : List Point) (r : Result PricedPolygon Refusal) → length ps ≤ 256 → ClosestBest codes strays budget ps list r → ClosestBest codes strays budget ps (front list) r
  closest_shown codes strays budget ps (Ok a) few b = subst (λ vs. ClosestOf codes strays budget ps vs a) (same_front (length ps) a.vertices list few l b.fits.0.0) b
  closest_shown codes strays budget ps (Err e) few b = b
