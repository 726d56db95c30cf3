use Rattle.std.specs.Prelude.{◌≡◌, ℕ, zero, suc, ◌<◌, ◌≤◌, Bool, true, false, cond, ◌⊎◌, List, length, take, drop, Some, None, Option}
use Rattle.cost.specs.Cost.{CostOf}
use Rattle.std.specs.List.{slice_get}
use Rattle.graph.specs.declared.Row.{Row}

-- An edge to a higher place leads to one that more edges lead to, and at most 255 edges lead to a place.
pub record Shallow {W : Type 0} (places : ℕ) (edge : ℕ → ℕ → Option W) (depth : ℕ → ℕ) : Type 0 where
  pub deeper : (i j : ℕ) (w : W) → i < j → j < places → edge i j ≡ Some w → suc (depth i) ≤ depth j
  pub most : (j : ℕ) → j < places → depth j ≤ 255

-- A cost joined with the weight of an edge, where it has one.
abbrev pub through : {C W : Type 0} → CostOf C W → C → Option W → Option C
through k c None = None
through k c (Some w) = Some (k.join c w)

-- What a row gives over an edge: its cost joined with the weight, where the row is reached.
abbrev pub from_row : {C W : Type 0} → CostOf C W → Option (Row C) → Option W → Option C
from_row k None weight = None
from_row k (Some row) weight = cond row.reached (through k row.cost weight) None

-- What place i offers place j: its cost joined with the weight of the edge, where i is reached and the edge has a weight.
abbrev pub offer : {C W : Type 0} → CostOf C W → (ℕ → ℕ → Option W) → List (Row C) → ℕ → ℕ → Option C
offer k edge rows i j = from_row k (slice_get rows i) (edge i j)

-- No place below n offers anything.
abbrev pub NoOffer : {C : Type 0} → (ℕ → Option C) → ℕ → Type 0
NoOffer offers n = (i : ℕ) → i < n → offers i ≡ None

-- Of the places below n, place p is the lowest-numbered that offers the least, which is c.
pub record Least {C W : Type 0} (k : CostOf C W) (offers : ℕ → Option C) (n p : ℕ) (c : C) : Type 0 where
  pub lower : p < n
  pub gives : offers p ≡ Some c
  pub least : (i : ℕ) (d : C) → i < n → offers i ≡ Some d → k.above c d ≡ false
  pub lowest : (i : ℕ) (d : C) → i < p → offers i ≡ Some d → k.above d c ≡ true

-- Place 0 is reached at the start value, and has predecessor 0.
abbrev pub first_row : {C W : Type 0} → CostOf C W → Row C
first_row k = record { reached = true; cost = k.start; predecessor = 0 }

-- An unreached place has the start value and predecessor 0.
abbrev pub unreached_row : {C W : Type 0} → CostOf C W → Row C
unreached_row k = record { reached = false; cost = k.start; predecessor = 0 }

-- The row of a later place: unreached where no lower place offers anything, and else the least offer with the place that makes it.
abbrev pub LaterRow : {C W : Type 0} → CostOf C W → (ℕ → Option C) → ℕ → Row C → Type 0
LaterRow k offers j row =
    ((row ≡ unreached_row k) × NoOffer offers j)
    ⊎ ((row.reached ≡ true) × Least k offers j row.predecessor row.cost)

-- The row of a place by the rule.
abbrev pub RowRule : {C W : Type 0} → CostOf C W → (ℕ → ℕ → Option W) → List (Row C) → ℕ → Row C → Type 0
RowRule k edge rows zero row = row ≡ first_row k
RowRule k edge rows (suc j) row = LaterRow k (λ i. offer k edge rows i (suc j)) (suc j) row

-- Rows are a table where each is by the rule.
abbrev pub Table : {C W : Type 0} → CostOf C W → (ℕ → ℕ → Option W) → List (Row C) → Type 0
Table {C} k edge rows = (j : ℕ) (row : Row C) → slice_get rows j ≡ Some row → RowRule k edge rows j row

-- Where there are rows enough the first are the table and the others are kept, and else nothing changes.
abbrev pub Filled : {C W : Type 0} → CostOf C W → (ℕ → ℕ → Option W) → ℕ → List (Row C) → List (Row C) → Bool → Type 0
Filled k edge places before after true = (places ≤ length before) × Table k edge (take places after) × (drop places after ≡ drop places before)
Filled k edge places before after false = (length before < places) × (after ≡ before)
