use Rattle.std.proofs.Common.{arith}
use Rattle.coding.specs.Bits.{bits_of}
use Rattle.coding.specs.BitLists.{length_bits_of}
use Rattle.coding.specs.Views.{take_min}
use Rattle.coding.proofs.bit_row.BitRow.new.Goals as goal

pub returns : goal.returns
returns c =
    let bytes = c.args.bytes.now in
    take_min c.saturating_mul.result 18446744073709551615 (bits_of bytes) (omega (arith, length_bits_of bytes))
