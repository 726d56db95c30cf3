-- What a row of bits stands for.
use Rattle.std.specs.Prelude.{Bool, List, take, drop}
use Rattle.coding.specs.declared.bit_row.BitRow.{BitRow}
use Rattle.coding.specs.Bits.{bits_of}

-- The bits of a row: as many as its length, from its first bit on.
abbrev pub row_bits : BitRow → List Bool
row_bits r = take r.len (drop r.from (bits_of r.bytes.now))
