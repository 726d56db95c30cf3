-- There is a list place for each vertex of an answer.
use Rattle.std.proofs.Common.{ℕ, ◌≤◌, List, length, IfOk, Some, None, Ok, Err, Option, Result, arith}
use Rattle.coding.specs.Tables.{Table}
use Rattle.cost.specs.declared.bits.Bits.{Bits}
use Rattle.cost.specs.declared.two_part.TwoPart.{TwoPart}
use Rattle.graph.specs.declared.Row.{Row}
use Rattle.measure.specs.Measures.{Strays}
use Rattle.measure.specs.declared.fraction.Fraction.{Fraction}
use Rattle.outline.specs.declared.point.Point.{Point}
use Rattle.outline.specs.declared.refusal.Refusal.{Refusal}
use Rattle.search.specs.Cheapest.{CheapestRule}
use Rattle.search.specs.declared.by_price.PricedPolygon.{PricedPolygon}
use Rattle.weighing.specs.declared.deviation.Deviation.{Deviation}
use Rattle.closest.specs.Closest.{ClosestRule}

module _ (codes : Table) (strays : Strays) (ps : List Point) (rows rows_after : List (Row (TwoPart Bits Deviation))) (list list_after : List ℕ) where
  pub cheapest_few : (t : Option Fraction) (r : Result PricedPolygon Refusal) → CheapestRule codes strays t ps rows rows_after list list_after r → IfOk r (λ a. a.vertices ≤ length list)
  cheapest_few (Some t) (Ok a) h = omega (arith, h.2.2, h.2.3)
  cheapest_few (Some t) (Err e) h = tt
  cheapest_few None (Ok a) h = cc
  cheapest_few None (Err e) h = tt

  pub closest_few : (budget : ℕ) (r : Result PricedPolygon Refusal) → ClosestRule codes strays budget ps rows rows_after list list_after r → IfOk r (λ a. a.vertices ≤ length list)
  closest_few budget (Ok a) h = cheapest_few (Some h.0) (Ok a) h.2
  closest_few budget (Err e) h = tt
