-- Values reached over few edges are reached over more.
use Rattle.std.proofs.Common.{ℕ, zero, suc, ◌≤◌, arith}
use Rattle.cost.specs.Cost.{CostOf, Within}
use Rattle.cost.specs.Cost.Within.{begins, goes}

module _ {C W : Type 0} {k : CostOf C W} where
  pub within_more : {n : ℕ} {c : C} (m : ℕ) → n ≤ m → Within k n c → Within k m c
  within_more m h begins = begins
  within_more zero h (goes w v) = absurd (omega arith)
  within_more (suc m) h (goes w v) = goes w (within_more m (omega arith) v)
