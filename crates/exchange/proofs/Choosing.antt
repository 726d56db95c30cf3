-- The best polygon for a goal, and its vertices in the list.
use Rattle.std.proofs.Common.{◌≡◌, ℕ, List, length, take, Some, None, Ok, Option, arith}
use Rattle.coding.specs.Tables.{Table, Codes}
use Rattle.measure.specs.Fractions.{fraction}
use Rattle.measure.specs.Measures.{Strays}
use Rattle.measure.specs.declared.fraction.Fraction.{Fraction}
use Rattle.outline.specs.declared.point.Point.{Point}
use Rattle.search.specs.Cheapest.{CheapestBest}
use Rattle.search.specs.declared.by_price.PricedPolygon.{PricedPolygon}
use Rattle.weighing.proofs.Usable.{priced_usable}
use Rattle.weighing.specs.Edges.{edge_price, polygon_bits}
use Rattle.weighing.specs.Weights.{Usable}
use Rattle.closest.specs.Goals.{BestFor}
use Rattle.closest.specs.declared.goal.Goal.{Goal}
use Rattle.closest.specs.declared.goal.Goal.TheVariants.{Tolerance, Budget}

module _ (codes : Table) (strays : Strays) (ps : List Point) where
  module _ (laws : Codes codes) (list : List ℕ) (a : PricedPolygon) where
    abbrev found : List ℕ
    found = take a.vertices list

    cheapest_usable : (t : Option Fraction) → CheapestBest codes strays t ps list (Ok a) → Usable (edge_price codes ps) (length ps) found × (a.bits ≡ polygon_bits (edge_price codes ps) found)
    cheapest_usable (Some t) h = ((priced_usable codes strays ps (length ps) found laws t h.0.usable).0, h.1.0)
    cheapest_usable None h = let z : ◌≡◌ {A = ℕ} 0 1 = cc in absurd (omega arith)

    -- the coder can write the polygon that is found, and the bits are its own
    pub best_usable : (goal : Goal) → BestFor goal codes strays ps list (Ok a) → Usable (edge_price codes ps) (length ps) found × (a.bits ≡ polygon_bits (edge_price codes ps) found)
    best_usable (Tolerance top bottom) h = cheapest_usable (fraction top bottom) h
    best_usable (Budget bits) h = (h.fits.0, h.bits)
