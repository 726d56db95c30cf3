-- Words of the inner functions' contracts: no public one cites them.
use Rattle.std.specs.Prelude.{ℕ, cond, ◌&&◌, Some, None, Option, nat_lt}
use Rattle.cost.specs.Cost.{CostOf}
use Rattle.graph.specs.Rows.{NoOffer, Least}
use Rattle.graph.specs.declared.Row.{Row}
use Rattle.graph.specs.declared.search.Candidate.{Candidate}

-- The best candidate among the places below n, where one of them offers anything.
abbrev pub Best : {C W : Type 0} → CostOf C W → (ℕ → Option C) → ℕ → Option (Candidate C) → Type 0
Best k offers n None = NoOffer offers n
Best k offers n (Some best) = Least k offers n best.from best.cost

-- Of the best candidate so far and a new one, the new one only where it is below.
abbrev pub better : {C W : Type 0} → CostOf C W → Option (Candidate C) → Candidate C → Candidate C
better k None new = new
better k (Some old) new = cond (k.above old.cost new.cost) new old

-- The place before a place on a list: its row's predecessor, where the row is reached and that is lower.
abbrev pub previous : {C : Type 0} → Option (Row C) → ℕ → Option ℕ
previous None j = None
previous (Some row) j = cond (row.reached && nat_lt row.predecessor j) (Some row.predecessor) None
