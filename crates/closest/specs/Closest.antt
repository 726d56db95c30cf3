-- The closest polygon: the smallest deviation within a budget of bits.
use Rattle.std.specs.Prelude.{◌≡◌, ℕ, ◌<◌, ◌≤◌, true, false, ◌⊎◌, List, length, take, Some, Ok, Err, Result}
use Rattle.coding.specs.Tables.{Table}
use Rattle.cost.specs.declared.bits.Bits.{Bits}
use Rattle.cost.specs.declared.two_part.TwoPart.{TwoPart}
use Rattle.graph.specs.Rows.{Filled}
use Rattle.graph.specs.declared.Row.{Row}
use Rattle.measure.specs.Deviation.{edge_deviation, polygon_deviation}
use Rattle.measure.specs.Fractions.{above, largest}
use Rattle.measure.specs.Measures.{Strays}
use Rattle.measure.specs.Order.{Equal}
use Rattle.measure.specs.declared.fraction.Fraction.{Fraction}
use Rattle.outline.specs.declared.point.Point.{Point}
use Rattle.outline.specs.declared.refusal.Refusal.{Refusal}
use Rattle.outline.specs.declared.refusal.Refusal.TheVariants.{ListShort, RowsShort, NoUsable, OverBudget}
use Rattle.search.specs.Cheapest.{priced_cost, CheapestRule}
use Rattle.search.specs.declared.by_price.PricedPolygon.{PricedPolygon}
use Rattle.weighing.specs.Edges.{edge_price, polygon_bits}
use Rattle.weighing.specs.Weighers.{priced_weight}
use Rattle.weighing.specs.Weights.{Usable}
use Rattle.weighing.specs.declared.deviation.Deviation.{Deviation}

-- A coder can write a polygon when it prices the displacement of every edge.
abbrev pub Writes : Table → List Point → List ℕ → Type 0
Writes codes ps vs = Usable (edge_price codes ps) (length ps) vs

-- A polygon fits a budget when the coder can write it and its bits are not above the budget.
abbrev pub Fits : Table → List Point → ℕ → List ℕ → Type 0
Fits codes ps budget vs = Writes codes ps vs × (polygon_bits (edge_price codes ps) vs ≤ budget)

-- The smallest deviation of any polygon that fits: one that fits has it, and it is above that of none that fits.
pub record Smallest (codes : Table) (strays : Strays) (ps : List Point) (budget : ℕ) (d : Fraction) : Type 0 where
  pub reached : (vs : List ℕ) × Fits codes ps budget vs × (polygon_deviation (edge_deviation strays ps) vs ≡ d)
  pub least : (us : List ℕ) → Fits codes ps budget us → above d (polygon_deviation (edge_deviation strays ps) us) ≡ false

-- The coder can write no polygon.
abbrev pub WritesNone : Table → List Point → Type 0
WritesNone codes ps = (us : List ℕ) → Writes codes ps us → ⊥

-- The coder can write a polygon, and all that it can write take more bits than the budget.
abbrev pub AllOver : Table → List Point → ℕ → Type 0
AllOver codes ps budget =
    ((vs : List ℕ) × Writes codes ps vs)
    × ((us : List ℕ) → Writes codes ps us → budget < polygon_bits (edge_price codes ps) us)

-- The workspace that cheapest leaves at the largest tolerance.
abbrev pub LeftAtLargest : Table → Strays → List Point → List (Row (TwoPart Bits Deviation)) → List (Row (TwoPart Bits Deviation)) → Type 0
LeftAtLargest codes strays ps rows rows_after = Filled priced_cost (priced_weight codes strays largest ps) (length ps) rows rows_after true

-- Closest is cheapest at the smallest deviation that fits, or is refused by 24, 23, 26 or 27, the first that holds; 24 and 23 leave all, and 26 and 27 the list.
abbrev pub ClosestRule : Table → Strays → ℕ → List Point → List (Row (TwoPart Bits Deviation)) → List (Row (TwoPart Bits Deviation)) → List ℕ → List ℕ → Result PricedPolygon Refusal → Type 0
ClosestRule codes strays budget ps rows rows_after list list_after (Ok a) =
    (d : Fraction) × Smallest codes strays ps budget d × CheapestRule codes strays (Some d) ps rows rows_after list list_after (Ok a)
ClosestRule codes strays budget ps rows rows_after list list_after (Err e) =
    ((e ≡ RowsShort) × (length rows < length ps) × (rows_after ≡ rows) × (list_after ≡ list))
    ⊎ ((e ≡ ListShort) × (length ps ≤ length rows) × (length list < length ps) × (rows_after ≡ rows) × (list_after ≡ list))
    ⊎ ((e ≡ NoUsable) × (length ps ≤ length list) × WritesNone codes ps × LeftAtLargest codes strays ps rows rows_after × (list_after ≡ list))
    ⊎ ((e ≡ OverBudget) × (length ps ≤ length list) × AllOver codes ps budget × LeftAtLargest codes strays ps rows rows_after × (list_after ≡ list))

-- A polygon that fits, with its own bits and deviation: every polygon that fits deviates at least as much, and none that deviates equally takes fewer bits.
pub record ClosestOf (codes : Table) (strays : Strays) (budget : ℕ) (ps : List Point) (vs : List ℕ) (a : PricedPolygon) : Type 0 where
  pub fits : Fits codes ps budget vs
  pub bits : a.bits ≡ polygon_bits (edge_price codes ps) vs
  pub deviation : a.deviation ≡ polygon_deviation (edge_deviation strays ps) vs
  pub closest : (us : List ℕ) → Fits codes ps budget us → above a.deviation (polygon_deviation (edge_deviation strays ps) us) ≡ false
  pub fewest : (us : List ℕ) → Fits codes ps budget us → Equal (polygon_deviation (edge_deviation strays ps) us) a.deviation → a.bits ≤ polygon_bits (edge_price codes ps) us

-- The list begins with a closest polygon, or closest is refused by 26, where the coder can write no polygon, or by 27, where all that it can write take more than the budget.
abbrev pub ClosestBest : Table → Strays → ℕ → List Point → List ℕ → Result PricedPolygon Refusal → Type 0
ClosestBest codes strays budget ps list (Ok a) = ClosestOf codes strays budget ps (take a.vertices list) a
ClosestBest codes strays budget ps list (Err e) =
    ((e ≡ NoUsable) × WritesNone codes ps) ⊎ ((e ≡ OverBudget) × AllOver codes ps budget)
