-- What a search answers and leaves, by the rules of its rows.
use Rattle.std.specs.Prelude.{◌≡◌, ℕ, ◌-◌, ◌<◌, ◌≤◌, true, false, cond, ◌⊎◌, List, ◌++◌, length, drop, Some, None, Ok, Err, Option, Result, nat_lt}
use Rattle.cost.specs.Cost.{CostOf}
use Rattle.graph.specs.Paths.{ReadBack}
use Rattle.graph.specs.Rows.{Filled}
use Rattle.graph.specs.declared.Row.{Row}
use Rattle.outline.specs.declared.refusal.Refusal.{Refusal}
use Rattle.outline.specs.declared.refusal.Refusal.TheVariants.{ListShort, RowsShort, NoUsable}
use Rattle.std.specs.List.{slice_get}
use Rattle.search.specs.declared.Found.{Found}

-- Whether there is a row for each of n points, and then a list place for each.
abbrev pub room : ℕ → ℕ → ℕ → Result (Unit {0}) Refusal
room n rows list = cond (nat_lt rows n) (Err RowsShort) (cond (nat_lt list n) (Err ListShort) (Ok tt))

-- The cost of a row, where the row is there and reached.
abbrev pub reached_cost : {C : Type 0} → Option (Row C) → Option C
reached_cost None = None
reached_cost (Some row) = cond row.reached (Some row.cost) None

-- The cost of the last of n points, where it is reached.
abbrev pub last_cost : {C : Type 0} → ℕ → List (Row C) → Option C
last_cost n rows = reached_cost (slice_get rows (n - 1))

-- Filling the rows answers the last point's cost, or is refused by 24 where there are fewer rows than points.
abbrev pub RowsFilled : {C W : Type 0} → CostOf C W → (ℕ → ℕ → Option W) → ℕ → List (Row C) → List (Row C) → Result (Option C) Refusal → Type 0
RowsFilled k weight n before after (Ok cost) = Filled k weight n before after true × (cost ≡ last_cost n after)
RowsFilled k weight n before after (Err e) = Filled k weight n before after false × (e ≡ RowsShort)

-- The list read back from the last of n points stands at the front and the rest is kept; or nothing changes, as there is no such list or it is too long.
abbrev pub ReadOut : {C : Type 0} → ℕ → List (Row C) → List ℕ → List ℕ → Option (Found C) → Type 0
ReadOut n rows before after None = ((vs : List ℕ) → ReadBack rows (n - 1) vs → length before < length vs) × (after ≡ before)
ReadOut n rows before after (Some found) =
    (vs : List ℕ) × ReadBack rows (n - 1) vs × (length vs ≡ found.vertices) × (length vs ≤ length before) × (after ≡ vs ++ drop (length vs) before)
    × (last_cost n rows ≡ Some found.cost)

-- A search answers the list read back and its cost, or is refused by 24, 23 or 26, the first that holds; 24 and 23 leave all, and 26 the list.
abbrev pub Answered : {C W : Type 0} → CostOf C W → (ℕ → ℕ → Option W) → ℕ → List (Row C) → List (Row C) → List ℕ → List ℕ → Result (Found C) Refusal → Type 0
Answered k weight n rows rows_after list list_after (Ok found) =
    (n ≤ length list) × Filled k weight n rows rows_after true × ReadOut n rows_after list list_after (Some found)
Answered k weight n rows rows_after list list_after (Err e) =
    ((e ≡ RowsShort) × (length rows < n) × (rows_after ≡ rows) × (list_after ≡ list))
    ⊎ ((e ≡ ListShort) × (n ≤ length rows) × (length list < n) × (rows_after ≡ rows) × (list_after ≡ list))
    ⊎ ((e ≡ NoUsable) × (n ≤ length list) × Filled k weight n rows rows_after true × (last_cost n rows_after ≡ None) × (list_after ≡ list))
