-- Cheapest at the smallest deviation that fits is closest.
use Rattle.std.proofs.Common.{◌≡◌, ℕ, ◌<◌, ◌≤◌, false, List, length, take, drop, Some, Ok, Err, Result, sym, ap, ◌∙◌, ⊎_elim, arith}
use Rattle.coding.specs.Tables.{Table, Codes}
use Rattle.cost.specs.Bits.{of_count}
use Rattle.cost.specs.TwoPart.{both}
use Rattle.cost.specs.declared.bits.Bits.{Bits}
use Rattle.cost.specs.declared.two_part.TwoPart.{TwoPart}
use Rattle.graph.specs.declared.Row.{Row}
use Rattle.measure.proofs.Order.{not_above_through, total_order}
use Rattle.measure.proofs.Widening.{not_above_itself}
use Rattle.measure.specs.Deviation.{edge_deviation, polygon_deviation}
use Rattle.measure.specs.Fractions.{above}
use Rattle.measure.specs.Measures.{Strays}
use Rattle.measure.specs.declared.fraction.Fraction.{Fraction}
use Rattle.outline.specs.declared.point.Point.{Point}
use Rattle.outline.specs.declared.refusal.Refusal.{Refusal}
use Rattle.search.proofs.Bests.{none_usable}
use Rattle.search.specs.Best.{Best, NoneUsable}
use Rattle.search.specs.Cheapest.{priced_cost, CheapestRule, CheapestBest}
use Rattle.search.specs.declared.by_price.PricedPolygon.{PricedPolygon}
use Rattle.weighing.proofs.Usable.{usable_priced}
use Rattle.weighing.specs.Deviations.{of_value}
use Rattle.weighing.specs.Edges.{edge_price, polygon_bits}
use Rattle.weighing.specs.Weighers.{priced_weight}
use Rattle.weighing.specs.declared.deviation.Deviation.{Deviation}
use Rattle.closest.proofs.Fitting.{best_parts, best_fewest}
use Rattle.closest.specs.Closest.{Smallest, ClosestRule, ClosestOf, ClosestBest}

module _ (codes : Table) (strays : Strays) (ps : List Point) (some : 0 < length ps) (few : length ps ≤ 256) (laws : Codes codes) (budget : ℕ) (d : Fraction) (small : Smallest codes strays ps budget d) where
  abbrev dev : List ℕ → Fraction
  dev vs = polygon_deviation (edge_deviation strays ps) vs

  -- the polygon of the smallest deviation is usable there
  usable : NoneUsable (priced_weight codes strays d ps) (length ps) → ⊥
  usable none =
      let vs = small.reached.0 in
      let low : above (dev vs) d ≡ false = ap (λ x. above x d) small.reached.2 ∙ not_above_itself d in
      none vs (usable_priced codes strays ps (length ps) vs laws d small.reached.1.0 low)

  pub closest_rule : (rows mid after : List (Row (TwoPart Bits Deviation))) (list list_after : List ℕ) (r : Result PricedPolygon Refusal)
      → length ps ≤ length rows → length ps ≤ length mid → length ps ≤ length after → length ps ≤ length list → drop (length ps) mid ≡ drop (length ps) rows
      → CheapestRule codes strays (Some d) ps mid after list list_after r → ClosestRule codes strays budget ps rows after list list_after r
  closest_rule rows mid after list list_after (Ok a) long mid_long after_long fits further h =
      (d, small, (h.0, (long, h.1.1, h.1.2 ∙ further), h.2))
  closest_rule rows mid after list list_after (Err e) long mid_long after_long fits further h =
      absurd
      (⊎_elim
      (λ short. let l = short.1 in absurd (omega arith))
      (⊎_elim
      (λ short. let l = short.2 in absurd (omega arith))
      (λ none. usable (none_usable priced_cost (priced_weight codes strays d ps) (length ps) after some after_long none.2.1 none.3)))
      h)

  closest_of : (vs : List ℕ) (a : PricedPolygon) → Best priced_cost (priced_weight codes strays d ps) (length ps) vs (both (of_count a.bits) (of_value a.deviation)) → ClosestOf codes strays budget ps vs a
  closest_of vs a b =
      let cost : TwoPart Bits Deviation = both (of_count a.bits) (of_value a.deviation) in
      let is = best_parts codes strays ps few laws d vs cost b in
      let ws = small.reached.0 in
      let low : above (dev ws) d ≡ false = ap (λ x. above x d) small.reached.2 ∙ not_above_itself d in
      let cheap : a.bits ≤ polygon_bits (edge_price codes ps) ws = best_fewest codes strays ps few laws d vs cost b ws small.reached.1.0 low in
      let within : polygon_bits (edge_price codes ps) ws ≤ budget = small.reached.1.1 in
      let same_bits : polygon_bits (edge_price codes ps) vs ≡ a.bits = is.2 in
      let not_more : above a.deviation d ≡ false = ap (λ x. above x d) (sym is.3) ∙ is.1 in
      record {
        fits = (is.0, omega arith);
        bits = sym is.2;
        deviation = sym is.3;
        closest = λ us f. not_above_through a.deviation d (dev us) not_more (small.least us f);
        fewest = λ us f equal.
            let no_more : above (dev us) a.deviation ≡ false = (total_order.by_value (dev us) a.deviation a.deviation equal).0 ∙ not_above_itself a.deviation in
            best_fewest codes strays ps few laws d vs cost b us f.0 (not_above_through (dev us) a.deviation d no_more not_more);
      }

  pub closest_best : (list_after : List ℕ) (r : Result PricedPolygon Refusal) → CheapestBest codes strays (Some d) ps list_after r → ClosestBest codes strays budget ps list_after r
  closest_best list_after (Ok a) h = closest_of (take a.vertices list_after) a h.0
  closest_best list_after (Err e) h = absurd (usable h.0.1)
