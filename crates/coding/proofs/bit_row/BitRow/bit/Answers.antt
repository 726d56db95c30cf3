use Rattle.std.proofs.Common.{◌+◌, false, Some, sym, ap, ◌∙◌, arith}
use Rattle.coding.specs.Bits.{bits_of}
use Rattle.coding.specs.BitLists.{length_bits_of, bit_of}
use Rattle.coding.specs.Views.{nth_view}
use Rattle.coding.proofs.bit_row.BitRow.bit.Goals as goal

pub returns : goal.returns
returns c =
    let r = c.args.self in
    let bytes = r.bytes.now in
    let n = length_bits_of bytes in
    ap Some (sym (bit_of bytes (r.from + c.args.k) false (omega (arith, r.inside))))
    ∙ sym (nth_view r.from r.len c.args.k (bits_of bytes) false (omega (arith, n, r.inside)) (omega arith))
