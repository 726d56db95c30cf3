-- Bits put into bytes one code after the other.
use Rattle.std.specs.Prelude.{ℕ, Bool, List, ◌++◌, take}
use Rattle.coding.specs.Bits.{bits_of, low_bits}
use Rattle.records.specs.declared.tail.Tail.{Tail}

-- The bits so far: those of the whole bytes and those of the tail.
abbrev pub put_bits : List ℕ → Tail → List Bool
put_bits bytes tail = bits_of (take tail.at bytes) ++ low_bits tail.len tail.bits
