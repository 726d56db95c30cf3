use Rattle.std.proofs.Common.{sym, subst, arith}
use Rattle.coding.specs.Kinds.{flat}
use Rattle.coding.specs.Rows.{row_bits}
use Rattle.coding.specs.Tables.{Reads}
use Rattle.coding.specs.Fields.{number_is}
use Rattle.coding.specs.Flats.{flat_fields, flat_read}
use Rattle.coding.proofs.flat.FlatCoder.read.Goals as goal

pub signed-requires : goal.signed-requires
signed-requires c =
    let is = number_is 22 (row_bits c.args.row) c.in_ok-bits.bits (sym c.in_ok-bits.ensures) in
    omega (arith, is.1)

pub returns-in_err-dx : goal.returns-in_err-dx
returns-in_err-dx c =
    let row = row_bits c.args.row in
    let v = c.in_ok-bits.bits in
    let is = number_is 22 row v (sym c.in_ok-bits.ensures) in
    subst (Reads flat row) (sym c.from_residual-in_err-dx.ensures)
    (λ x y code e b. let parts = flat_fields v row is.1 is.2 x y code e b in c.in_err-dx.ensures x parts.0 parts.1)

pub returns-in_err-dy : goal.returns-in_err-dy
returns-in_err-dy c =
    let row = row_bits c.args.row in
    let v = c.in_ok-bits.bits in
    let is = number_is 22 row v (sym c.in_ok-bits.ensures) in
    subst (Reads flat row) (sym c.from_residual-in_err-dy.ensures)
    (λ x y code e b. let parts = flat_fields v row is.1 is.2 x y code e b in c.in_err-dy.ensures y parts.2 parts.3)

pub returns : goal.returns
returns c =
    let row = row_bits c.args.row in
    let v = c.in_ok-bits.bits in
    let is = number_is 22 row v (sym c.in_ok-bits.ensures) in
    let x = c.in_ok-dx.ensures in
    let y = c.in_ok-dy.ensures in
    flat_read v row is.1 is.2 c.in_ok-dx.dx c.in_ok-dy.dy x.0 y.0 x.1 y.1
