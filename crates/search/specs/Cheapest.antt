-- What cheapest and finest answer: least with the priced and with the straying weigher.
use Rattle.std.specs.Prelude.{◌≡◌, ℕ, List, length, take, Some, None, Ok, Err, Option, Result}
use Rattle.coding.specs.Tables.{Table}
use Rattle.cost.specs.Bits.{bits_cost, of_count}
use Rattle.cost.specs.Cost.{CostOf}
use Rattle.cost.specs.TwoPart.{both, two_part}
use Rattle.cost.specs.declared.bits.Bits.{Bits}
use Rattle.cost.specs.declared.price.Price.{Price}
use Rattle.cost.specs.declared.two_part.TwoPart.{TwoPart}
use Rattle.graph.specs.declared.Row.{Row}
use Rattle.measure.specs.Deviation.{edge_deviation, polygon_deviation}
use Rattle.measure.specs.Measures.{Strays}
use Rattle.measure.specs.declared.fraction.Fraction.{Fraction}
use Rattle.outline.specs.declared.point.Point.{Point}
use Rattle.outline.specs.declared.refusal.Refusal.{Refusal}
use Rattle.outline.specs.declared.refusal.Refusal.TheVariants.{Tolerance}
use Rattle.search.specs.Best.{BestAnswered}
use Rattle.search.specs.Rules.{Answered}
use Rattle.search.specs.declared.Found.{Found}
use Rattle.search.specs.declared.by_price.PricedPolygon.{PricedPolygon}
use Rattle.search.specs.declared.by_straying.StrayingPolygon.{StrayingPolygon}
use Rattle.weighing.specs.Deviations.{deviation_cost, of_value}
use Rattle.weighing.specs.Edges.{edge_price, polygon_bits}
use Rattle.weighing.specs.Weighers.{priced_weight}
use Rattle.weighing.specs.declared.deviation.Deviation.{Deviation}

-- Bits, then deviation.
abbrev pub priced_cost : CostOf (TwoPart Bits Deviation) (Price × Fraction)
priced_cost = two_part bits_cost deviation_cost

-- Cheapest's answer as what least finds: the cost is the bits, then the deviation.
abbrev pub cheapest_found : Result PricedPolygon Refusal → Result (Found (TwoPart Bits Deviation)) Refusal
cheapest_found (Ok a) = Ok (record { vertices = a.vertices; cost = both (of_count a.bits) (of_value a.deviation) })
cheapest_found (Err e) = Err e

-- Finest's answer as what least finds: the cost is the deviation.
abbrev pub finest_found : Result StrayingPolygon Refusal → Result (Found Deviation) Refusal
finest_found (Ok a) = Ok (record { vertices = a.vertices; cost = of_value a.deviation })
finest_found (Err e) = Err e

-- Cheapest is least with the priced weigher at a tolerance; where the tolerance is no fraction it is refused by 4 and leaves all.
abbrev pub CheapestRule : Table → Strays → Option Fraction → List Point → List (Row (TwoPart Bits Deviation)) → List (Row (TwoPart Bits Deviation)) → List ℕ → List ℕ → Result PricedPolygon Refusal → Type 0
CheapestRule codes strays (Some t) ps rows rows_after list list_after r =
    Answered priced_cost (priced_weight codes strays t ps) (length ps) rows rows_after list list_after (cheapest_found r)
CheapestRule codes strays None ps rows rows_after list list_after r = (r ≡ Err Tolerance) × (rows_after ≡ rows) × (list_after ≡ list)

-- The bits and the deviation answered are those of the polygon that the list begins with.
abbrev pub OwnNumbers : Table → Strays → List Point → List ℕ → Result PricedPolygon Refusal → Type 0
OwnNumbers codes strays ps list (Ok a) =
    (a.bits ≡ polygon_bits (edge_price codes ps) (take a.vertices list))
    × (a.deviation ≡ polygon_deviation (edge_deviation strays ps) (take a.vertices list))
OwnNumbers codes strays ps list (Err e) = Unit {0}

-- Cheapest answers a polygon usable at the tolerance than which no other usable one costs less, with its own bits and deviation, or is refused by 26 where none is usable.
abbrev pub CheapestBest : Table → Strays → Option Fraction → List Point → List ℕ → Result PricedPolygon Refusal → Type 0
CheapestBest codes strays (Some t) ps list r =
    BestAnswered priced_cost (priced_weight codes strays t ps) (length ps) list (cheapest_found r) × OwnNumbers codes strays ps list r
CheapestBest codes strays None ps list r = r ≡ Err Tolerance

-- The deviation answered is that of the polygon that the list begins with.
abbrev pub OwnDeviation : Strays → List Point → List ℕ → Result StrayingPolygon Refusal → Type 0
OwnDeviation strays ps list (Ok a) = a.deviation ≡ polygon_deviation (edge_deviation strays ps) (take a.vertices list)
OwnDeviation strays ps list (Err e) = Unit {0}
