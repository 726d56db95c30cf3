-- The polygon that is asked for.
use Rattle.std.specs.Prelude.{ℕ, List, Result}
use Rattle.coding.specs.Tables.{Table}
use Rattle.cost.specs.declared.bits.Bits.{Bits}
use Rattle.cost.specs.declared.two_part.TwoPart.{TwoPart}
use Rattle.graph.specs.declared.Row.{Row}
use Rattle.measure.specs.Fractions.{fraction}
use Rattle.measure.specs.Measures.{Strays}
use Rattle.outline.specs.declared.point.Point.{Point}
use Rattle.outline.specs.declared.refusal.Refusal.{Refusal}
use Rattle.search.specs.Cheapest.{CheapestRule, CheapestBest}
use Rattle.search.specs.declared.by_price.PricedPolygon.{PricedPolygon}
use Rattle.weighing.specs.declared.deviation.Deviation.{Deviation}
use Rattle.closest.specs.Closest.{ClosestRule, ClosestBest}
use Rattle.closest.specs.declared.goal.Goal.{Goal}
use Rattle.closest.specs.declared.goal.Goal.TheVariants.{Tolerance, Budget}

-- The rule of what is asked: that of cheapest at a tolerance, or that of closest within a budget.
abbrev pub RuleFor : Goal → Table → Strays → List Point → List (Row (TwoPart Bits Deviation)) → List (Row (TwoPart Bits Deviation)) → List ℕ → List ℕ → Result PricedPolygon Refusal → Type 0
RuleFor (Tolerance top bottom) codes strays ps = CheapestRule codes strays (fraction top bottom) ps
RuleFor (Budget bits) codes strays ps = ClosestRule codes strays bits ps

-- The best polygon of some points: the cheapest within a tolerance, or the closest within a budget.
abbrev pub BestFor : Goal → Table → Strays → List Point → List ℕ → Result PricedPolygon Refusal → Type 0
BestFor (Tolerance top bottom) codes strays ps = CheapestBest codes strays (fraction top bottom) ps
BestFor (Budget bits) codes strays ps = ClosestBest codes strays bits ps
