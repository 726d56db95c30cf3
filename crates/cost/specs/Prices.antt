use Rattle.std.specs.Prelude.{ℕ, Some, None, Option}
use Rattle.std.proofs.Math.Decide.{dec_le}
use Rattle.cost.specs.declared.price.Price.{Price}

-- The price of so many bits, where they are 1 to 32.
abbrev pub priced : ℕ → Option Price
priced n = elim (dec_le 1 n) [
  | yes some ↦ elim (dec_le n 32) [ yes few ↦ Some (record { bits = n; some = some; few = few }) | no _ ↦ None ]
  | no _ ↦ None
]
