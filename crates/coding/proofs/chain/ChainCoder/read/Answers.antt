use Rattle.std.proofs.Common.{sym, refl, ap, ◌∙◌, arith}
use Rattle.coding.specs.Bits.{low_bits}
use Rattle.coding.specs.Directions.{taken}
use Rattle.coding.specs.Kinds.{chain_code}
use Rattle.coding.specs.Rows.{row_bits}
use Rattle.coding.specs.Fields.{number_is, begins_from}
use Rattle.coding.specs.Legs.{leg_read}
use Rattle.coding.specs.Straight.{number_told}
use Rattle.coding.proofs.chain.ChainCoder.read.Goals as goal

pub returns : goal.returns
returns c =
    let row = row_bits c.args.row in
    let d = c.in_ok-bits.bits in
    let is = number_is 3 row d (sym c.in_ok-bits.ensures) in
    let same = number_told d c.try_from.result c.in_ok-towards.towards c.try_from.ensures c.in_ok-towards.ensures.value in
    leg_read chain_code row d 1 3 c.displacement-dx.result (low_bits 3 d) is.1 (omega arith) (omega arith) (c.displacement-dx.ensures ∙ ap (λ k. taken k 1) same) refl (begins_from 3 (low_bits 3 d) row refl is.2) refl
