use Rattle.std.proofs.Common.{ap, ◌∙◌, ap₂, w16, to_z, of_z}
use Rattle.std.proofs.lemmas.Int.{to_z-of_z}
use Rattle.coding.specs.Kinds.{flat}
use Rattle.coding.specs.Tables.{spelled}
use Rattle.coding.specs.Flats.{flat_spelled}
use Rattle.coding.proofs.flat.FlatCoder.code.Goals as goal

pub returns : goal.returns
returns c =
    let x = c.args.dx in
    let y = c.args.dy in
    let a = c.in_ok-cols.ensures in
    let b = c.in_ok-rows.ensures in
    flat_spelled (to_z w16 (of_z w16 x)) (to_z w16 (of_z w16 y)) c.in_ok-cols.cols c.in_ok-rows.rows a.0 b.0 a.1 b.1 a.2 b.2
    ∙ ap spelled (ap₂ flat (to_z-of_z w16 x c.ranges.dx) (to_z-of_z w16 y c.ranges.dy))
