use Rattle.std.proofs.Common.{Greater, arith}
use Rattle.std.proofs.lemmas.Cmp.{ranked}
use Rattle.coding.specs.Flats.{signed_high}
use Rattle.coding.proofs.flat.signed.Goals as goal

pub returns-in-Greater : goal.returns-in-Greater
returns-in-Greater c = signed_high c.args.bits (ranked c.args.bits 1024 Greater c.in-Greater.ensures) (omega arith)
