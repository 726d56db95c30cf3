use Rattle.std.specs.Prelude.{ℕ, ◌+◌, min, nat_lt}
use Rattle.cost.specs.Cost.{CostOf}
use Rattle.cost.specs.declared.bits.Bits.{Bits}
use Rattle.cost.specs.declared.price.Price.{Price}

-- So many bits.
abbrev pub of_count : ℕ → Bits
of_count n = record { count = n }

-- Bits start at 0, join by adding up to what 16 bits hold, and are above where there are more of them.
abbrev pub bits_cost : CostOf Bits Price
bits_cost = record {
  start = of_count 0;
  join = λ b w. of_count (min (b.count + w.bits) 65535);
  above = λ a b. nat_lt b.count a.count;
}
