use Rattle.std.proofs.Common.{◌≡◌, take}
use Rattle.coding.specs.Bits.{value}
use Rattle.coding.specs.Rows.{row_bits}
use Rattle.coding.proofs.bit_row.BitRow.number.Given as goal

abbrev pub invariant-loop-k : goal.invariant-loop-k
invariant-loop-k l = l.number ≡ value (take l.k (row_bits l.self))
