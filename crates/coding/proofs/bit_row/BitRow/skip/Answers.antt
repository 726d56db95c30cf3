use Rattle.std.proofs.Common.{arith}
use Rattle.coding.specs.Bits.{bits_of}
use Rattle.coding.specs.BitLists.{length_bits_of}
use Rattle.coding.specs.Views.{drop_view}
use Rattle.coding.proofs.bit_row.BitRow.skip.Goals as goal

pub returns : goal.returns
returns c =
    let r = c.args.self in
    let bytes = r.bytes.now in
    drop_view r.from r.len c.args.n _ (bits_of bytes) (omega (arith, length_bits_of bytes, r.inside)) c.min-n.ensures
