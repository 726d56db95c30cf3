use Rattle.std.proofs.Common.{refl, sym, ◌∙◌}
use Rattle.outline.specs.Directions.{direction_number}
use Rattle.coding.specs.Bits.{low_bits}
use Rattle.coding.specs.Kinds.{chain_code}
use Rattle.coding.specs.BitLists.{value_low}
use Rattle.coding.specs.Legs.{leg_code}
use Rattle.outline.proofs.Kept.{number_small}
use Rattle.coding.proofs.chain.ChainCoder.code.Goals as goal

pub returns : goal.returns
returns c =
    let leg = c.in_ok-towards in
    let d = direction_number leg.towards in
    c.then_some.ensures
    ∙ leg_code chain_code c.args.dx c.args.dy d leg.length c.ranges.dx c.ranges.dy leg.ensures.value _ (low_bits 3 d) c.from.result 3 refl (λ _. c.from.ensures ∙ sym (value_low 3 d (number_small leg.towards))) refl
