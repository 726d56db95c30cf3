-- Cheapest and finest are least with the weigher that they make.
use Rattle.std.proofs.Common.{◌≡◌, ℕ, ◌≤◌, List, length, take, Some, Ok, Err, Option, Result, sym, ap, ◌∙◌, subst, subst₂}
use Rattle.coding.specs.Tables.{Table}
use Rattle.cost.specs.declared.bits.Bits.{Bits}
use Rattle.cost.specs.declared.two_part.TwoPart.{TwoPart}
use Rattle.graph.specs.declared.Row.{Row}
use Rattle.measure.specs.Measures.{Strays}
use Rattle.measure.specs.declared.fraction.Fraction.{Fraction}
use Rattle.outline.specs.declared.point.Point.{Point}
use Rattle.outline.specs.declared.refusal.Refusal.{Refusal}
use Rattle.search.specs.Best.{BestAnswered}
use Rattle.search.specs.Cheapest.{priced_cost, cheapest_found, finest_found, CheapestRule, CheapestBest, OwnNumbers, OwnDeviation}
use Rattle.search.specs.Rules.{Answered}
use Rattle.search.specs.declared.by_price.PricedPolygon.{PricedPolygon}
use Rattle.search.specs.declared.by_straying.StrayingPolygon.{StrayingPolygon}
use Rattle.weighing.specs.Deviations.{deviation_cost}
use Rattle.weighing.specs.Weighers.{priced_weight, straying_weight}
use Rattle.weighing.specs.declared.deviation.Deviation.{Deviation}
use Rattle.weighing.proofs.Costs.{priced_polygon, straying_polygon}

module _ (codes codes' : Table) (strays strays' : Strays) (ps : List Point) (same_codes : codes' ≡ codes) (same_strays : strays' ≡ strays) where
  module _ (t : Fraction) (o : Option Fraction) (is : Some t ≡ o) where
    pub cheapest_rule : (rows rows_after : List (Row (TwoPart Bits Deviation))) (list list_after : List ℕ) (a : Result PricedPolygon Refusal)
        → Answered priced_cost (priced_weight codes' strays' t ps) (length ps) rows rows_after list list_after (cheapest_found a)
        → CheapestRule codes strays o ps rows rows_after list list_after a
    cheapest_rule rows rows_after list list_after a h =
        subst (λ x. CheapestRule codes strays x ps rows rows_after list list_after a) is
        (subst₂ (λ c s. Answered priced_cost (priced_weight c s t ps) (length ps) rows rows_after list list_after (cheapest_found a)) same_codes same_strays h)

    own : (list : List ℕ) (a : Result PricedPolygon Refusal) → length ps ≤ 256 → BestAnswered priced_cost (priced_weight codes strays t ps) (length ps) list (cheapest_found a) → OwnNumbers codes strays ps list a
    own list (Ok a) few b =
        let vs = take a.vertices list in
        let cost = sym b.costs ∙ priced_polygon codes strays t ps vs few b.usable in
        (ap (λ (x : TwoPart Bits Deviation). x.first.count) cost, ap (λ (x : TwoPart Bits Deviation). x.second.value) cost)
    own list (Err e) few b = tt

    pub cheapest_best : (list : List ℕ) (a : Result PricedPolygon Refusal) → length ps ≤ 256
        → BestAnswered priced_cost (priced_weight codes' strays' t ps) (length ps) list (cheapest_found a) → CheapestBest codes strays o ps list a
    cheapest_best list a few h =
        let b : BestAnswered priced_cost (priced_weight codes strays t ps) (length ps) list (cheapest_found a) =
        subst₂ (λ c s. BestAnswered priced_cost (priced_weight c s t ps) (length ps) list (cheapest_found a)) same_codes same_strays h in
        subst (λ x. CheapestBest codes strays x ps list a) is (b, own list a few b)

  pub finest_rule : (rows rows_after : List (Row Deviation)) (list list_after : List ℕ) (a : Result StrayingPolygon Refusal)
      → Answered deviation_cost (straying_weight codes' strays' ps) (length ps) rows rows_after list list_after (finest_found a)
      → Answered deviation_cost (straying_weight codes strays ps) (length ps) rows rows_after list list_after (finest_found a)
  finest_rule rows rows_after list list_after a h =
      subst₂ (λ c s. Answered deviation_cost (straying_weight c s ps) (length ps) rows rows_after list list_after (finest_found a)) same_codes same_strays h

  own_deviation : (list : List ℕ) (a : Result StrayingPolygon Refusal) → BestAnswered deviation_cost (straying_weight codes strays ps) (length ps) list (finest_found a) → OwnDeviation strays ps list a
  own_deviation list (Ok a) b =
      ap (λ (x : Deviation). x.value) (sym b.costs ∙ straying_polygon codes strays ps (length ps) (take a.vertices list) b.usable)
  own_deviation list (Err e) b = tt

  pub finest_best : (list : List ℕ) (a : Result StrayingPolygon Refusal)
      → BestAnswered deviation_cost (straying_weight codes' strays' ps) (length ps) list (finest_found a)
      → BestAnswered deviation_cost (straying_weight codes strays ps) (length ps) list (finest_found a) × OwnDeviation strays ps list a
  finest_best list a h =
      let b : BestAnswered deviation_cost (straying_weight codes strays ps) (length ps) list (finest_found a) =
      subst₂ (λ c s. BestAnswered deviation_cost (straying_weight c s ps) (length ps) list (finest_found a)) same_codes same_strays h in
      (b, own_deviation list a b)
