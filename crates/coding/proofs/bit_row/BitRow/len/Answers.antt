use Rattle.std.proofs.Common.{sym, arith}
use Rattle.coding.specs.Bits.{bits_of}
use Rattle.coding.specs.BitLists.{length_bits_of}
use Rattle.coding.specs.Views.{length_view}
use Rattle.coding.proofs.bit_row.BitRow.len.Goals as goal

pub returns : goal.returns
returns c =
    let r = c.args.self in
    let bytes = r.bytes.now in
    sym (length_view r.from r.len (bits_of bytes) (omega (arith, length_bits_of bytes, r.inside)))
