use Rattle.std.proofs.Common.{refl, ◌∙◌}
use Rattle.outline.specs.Directions.{direction_number}
use Rattle.coding.specs.Bits.{low_bits}
use Rattle.coding.specs.Kinds.{chain_code}
use Rattle.coding.specs.Legs.{leg_price}
use Rattle.coding.proofs.chain.ChainCoder.price.Goals as goal

pub returns : goal.returns
returns c =
    let leg = c.in_ok-length in
    let d = direction_number leg.field-0-0 in
    c.then_some.ensures ∙ leg_price chain_code c.args.dx c.args.dy d leg.length c.ranges.dx c.ranges.dy leg.ensures.value _ (low_bits 3 d) 3 refl refl
