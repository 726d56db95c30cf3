use Rattle.std.specs.Prelude.{◌≡◌, ℕ, zero, ◌^◌, ◌<◌, ◌≤◌, true, List, [], ◌∷◌, ◌++◌, length, drop, Some, None, Option}
use Rattle.cost.specs.Cost.{CostOf}
use Rattle.std.specs.List.{slice_get}
use Rattle.graph.specs.Rows.{through}
use Rattle.graph.specs.declared.Row.{Row}

-- A list that rises from place 0 to a place: 0 alone, or such a list and then a higher place.
pub data Rising : ℕ → List ℕ → Type 0 where
  alone : Rising zero (zero ∷ [])
  higher : {i j : ℕ} {vs : List ℕ} → Rising i vs → i < j → Rising j (vs ++ (j ∷ []))

-- The cost on from place i, which has cost c, over the places of a list in order; none where a step has no weight.
abbrev pub cost_on : {C W : Type 0} → CostOf C W → (ℕ → ℕ → Option W) → ℕ → C → List ℕ → Option C
cost_on k edge i c [] = Some c
cost_on k edge i c (j ∷ vs) = elim (through k c (edge i j)) [ None ↦ None | Some d ↦ cost_on k edge j d vs ]

-- The cost of a path: the start joined with the weights of its steps in order.
abbrev pub path_cost : {C W : Type 0} → CostOf C W → (ℕ → ℕ → Option W) → List ℕ → Option C
path_cost k edge [] = None
path_cost k edge (v ∷ vs) = cost_on k edge v k.start vs

-- A list is a path to a place, of a cost, where it rises from place 0 to it and its steps come to that cost.
abbrev pub PathTo : {C W : Type 0} → CostOf C W → (ℕ → ℕ → Option W) → ℕ → List ℕ → C → Type 0
PathTo k edge j vs c = Rising j vs × (path_cost k edge vs ≡ Some c)

-- The list read back from a reached place: 0 alone, or the list read back from its predecessor, a lower place, and then the place.
pub data ReadBack {C : Type 0} (rows : List (Row C)) : ℕ → List ℕ → Type 0 where
  first : {row : Row C} → slice_get rows zero ≡ Some row → row.reached ≡ true → ReadBack rows zero (zero ∷ [])
  next : {j : ℕ} {row : Row C} {vs : List ℕ} → slice_get rows j ≡ Some row → row.reached ≡ true → row.predecessor < j → ReadBack rows row.predecessor vs → ReadBack rows j (vs ++ (j ∷ []))

-- The list read back stands at the front and the rest is kept; or nothing changes, as there is no such list of 16-bit numbers or it is too long.
abbrev pub Listed : {C : Type 0} → List (Row C) → ℕ → List ℕ → List ℕ → Option ℕ → Type 0
Listed rows to before after None = ((vs : List ℕ) → ReadBack rows to vs → to < 2 ^ 16 → length before < length vs) × (after ≡ before)
Listed rows to before after (Some n) = (vs : List ℕ) × ReadBack rows to vs × (length vs ≡ n) × (n ≤ length before) × (after ≡ vs ++ drop n before)
