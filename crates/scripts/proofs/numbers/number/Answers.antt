use Rattle.std.proofs.Common.{◌<◌, decimal, sym, subst}
use Rattle.scripts.specs.Numbers.{Reads}
use Rattle.scripts.proofs.Decimals.{narrowed, none_narrower}
use Rattle.scripts.proofs.numbers.number.Goals as goal

pub returns-in_err-whole : goal.returns-in_err-whole
returns-in_err-whole g c =
    let t = c.args.text.now in
    subst (Reads (λ n. decimal (g.N.Unsigned.value n)) (λ n. g.N.Unsigned.value n < g.N.Unsigned.limit) t) (sym c.from_residual.ensures)
    (none_narrower g.N.Unsigned.value g.N.Unsigned.limit g.met.N.Unsigned.within t c.in_err-whole.ensures)

pub returns : goal.returns
returns g c =
    let read = c.in_ok-whole.ensures in
    narrowed g.N.Unsigned.value g.N.Unsigned.limit g.met.N.Unsigned.within c.args.text.now c.in_ok-whole.field-0 c.narrow.result c.narrow.ensures read.0 read.1
