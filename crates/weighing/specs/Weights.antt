-- The weights of edges, usable polygons and their cost.
use Rattle.std.specs.Prelude.{◌≡◌, ℕ, true, false, ◌&&◌, List, length, is_some, Some, None, fold, Option, nat_lt}
use Rattle.std.specs.List.{AllByRecursion}
use Rattle.outline.specs.declared.point.Point.{Point}
use Rattle.outline.specs.Polygon.{Polygon, edges}
use Rattle.cost.specs.Cost.{CostOf}

-- Weights for the points of an outline: to the two numbers of an edge a weight, or none.
abbrev pub Weighing : Type 0 → Type 0
Weighing W = List Point → ℕ → ℕ → Option W

-- Only numbers i < j below the number of points get a weight.
abbrev pub EdgesOnly : {W : Type 0} → Weighing W → Type 0
EdgesOnly weight = (ps : List Point) (i j : ℕ) → (nat_lt i j && nat_lt j (length ps)) ≡ false → weight ps i j ≡ None

-- A polygon of n points is usable when all its edges have weights.
abbrev pub Usable : {W : Type 0} → (ℕ → ℕ → Option W) → ℕ → List ℕ → Type 0
Usable weight n vs = Polygon n vs × AllByRecursion (λ e. is_some (weight e.0 e.1) ≡ true) (edges vs)

-- A cost joined with a weight, where there is one.
abbrev pub joined : {C W : Type 0} → CostOf C W → C → Option W → C
joined k c (Some w) = k.join c w
joined k c None = c

-- The cost of a polygon: the start joined with the weights of its edges in order.
abbrev pub polygon_cost : {C W : Type 0} → CostOf C W → (ℕ → ℕ → Option W) → List ℕ → C
polygon_cost k weight vs = fold (λ c e. joined k c (weight e.0 e.1)) k.start (edges vs)
