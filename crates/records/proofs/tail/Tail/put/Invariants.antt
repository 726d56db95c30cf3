use Rattle.std.proofs.Common.{◌≡◌, ◌+◌, ◌*◌, ◌^◌, ◌<◌, ◌++◌, take}
use Rattle.coding.specs.Bits.{bits_of, low_bits}
use Rattle.records.proofs.tail.Tail.put.Given as goal

abbrev pub invariant-loop-byte : goal.invariant-loop-byte
invariant-loop-byte l =
    (l.bits < 2 ^ l.len)
    × (l.len + 8 * l.byte-index ≡ l.initial.len)
    × (bits_of (take l.byte-index l.byte-items) ++ low_bits l.len l.bits ≡ low_bits l.initial.len l.initial.bits)
