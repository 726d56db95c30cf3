use Rattle.std.specs.Prelude.{◌≡◌, ℕ, true, false, ◌↔◌, List, length, Some, Option}
use Rattle.cost.specs.Cost.{CostOf}
use Rattle.std.specs.List.{slice_get}
use Rattle.graph.specs.Paths.{ReadBack, PathTo}
use Rattle.graph.specs.Rows.{Shallow, Table}
use Rattle.graph.specs.declared.Row.{Row}

-- Two tables over the same edges, of the same number of places, are the same.
abbrev pub OneTable : {C W : Type 0} → CostOf C W → Type 0
OneTable {C} {W} k =
    (edge : ℕ → ℕ → Option W) (rows others : List (Row C)) →
    length rows ≡ length others → Table k edge rows → Table k edge others → rows ≡ others

-- A place is reached exactly where a path ends at it.
abbrev pub ReachedStands : {C W : Type 0} → CostOf C W → Type 0
ReachedStands {C} {W} k =
    (edge : ℕ → ℕ → Option W) (rows : List (Row C)) → Table k edge rows →
    (j : ℕ) (row : Row C) → slice_get rows j ≡ Some row → (row.reached ≡ true) ↔ ((vs : List ℕ) × (c : C) × PathTo k edge j vs c)

-- From each reached place exactly one list is read back, and it is a path of the place's cost.
abbrev pub ReadBackStands : {C W : Type 0} → CostOf C W → Type 0
ReadBackStands {C} {W} k =
    (edge : ℕ → ℕ → Option W) (rows : List (Row C)) → Table k edge rows →
    (j : ℕ) (row : Row C) → slice_get rows j ≡ Some row → row.reached ≡ true →
    (vs : List ℕ) × ReadBack rows j vs × PathTo k edge j vs row.cost × ((us : List ℕ) → ReadBack rows j us → us ≡ vs)

-- No path to a place costs less than its row says.
abbrev pub LeastStands : {C W : Type 0} → CostOf C W → Type 0
LeastStands {C} {W} k =
    (edge : ℕ → ℕ → Option W) (depth : ℕ → ℕ) (rows : List (Row C)) → Shallow (length rows) edge depth → Table k edge rows →
    (j : ℕ) (row : Row C) → slice_get rows j ≡ Some row → (vs : List ℕ) (c : C) → PathTo k edge j vs c → k.above row.cost c ≡ false
