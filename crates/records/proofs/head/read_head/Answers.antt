use Rattle.std.proofs.Common.{◌≡◌, refl, arith, rules, ltb-false}
use Rattle.records.specs.Reading.{word_at}
use Rattle.records.proofs.Parts.{same_point, part_of_rest}
use Rattle.records.proofs.head.read_head.Goals as goal

pub returns : goal.returns
returns c =
    let bs = c.args.bytes.now in
    let n : c.from_le_bytes-length.result ≡ word_at bs 0 = search rules in
    ((omega (arith, ltb-false), omega arith, omega (arith, ltb-false)), search rules, same_point _ _ _ _ (search rules) (search rules), refl, part_of_rest bs 9 _ _ n)
