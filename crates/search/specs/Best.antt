-- The best polygon, in the words of usable polygons and their costs.
use Rattle.std.specs.Prelude.{◌≡◌, ℕ, false, List, take, Some, None, Ok, Err, Option, Result}
use Rattle.cost.specs.Cost.{CostOf}
use Rattle.outline.specs.declared.refusal.Refusal.{Refusal}
use Rattle.outline.specs.declared.refusal.Refusal.TheVariants.{NoUsable}
use Rattle.search.specs.declared.Found.{Found}
use Rattle.weighing.specs.Weights.{Usable, polygon_cost}

-- No polygon of n points is usable.
abbrev pub NoneUsable : {W : Type 0} → (ℕ → ℕ → Option W) → ℕ → Type 0
NoneUsable weight n = (us : List ℕ) → Usable weight n us → ⊥

-- A usable polygon and its cost, such that every usable polygon costs at least as much.
pub record Best {C W : Type 0} (k : CostOf C W) (weight : ℕ → ℕ → Option W) (n : ℕ) (vs : List ℕ) (c : C) : Type 0 where
  pub usable : Usable weight n vs
  pub costs : polygon_cost k weight vs ≡ c
  pub least : (us : List ℕ) → Usable weight n us → k.above c (polygon_cost k weight us) ≡ false

-- The cost of a best polygon, where any is usable.
abbrev pub LeastCost : {C W : Type 0} → CostOf C W → (ℕ → ℕ → Option W) → ℕ → Option C → Type 0
LeastCost k weight n None = NoneUsable weight n
LeastCost k weight n (Some c) = (vs : List ℕ) × Best k weight n vs c

-- The front of the list is a best polygon of the cost answered, or the search is refused by 26 and no polygon is usable.
abbrev pub BestAnswered : {C W : Type 0} → CostOf C W → (ℕ → ℕ → Option W) → ℕ → List ℕ → Result (Found C) Refusal → Type 0
BestAnswered k weight n list (Ok found) = Best k weight n (take found.vertices list) found.cost
BestAnswered k weight n list (Err e) = (e ≡ NoUsable) × NoneUsable weight n
