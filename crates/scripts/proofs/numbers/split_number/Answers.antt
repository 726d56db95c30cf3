use Rattle.std.proofs.Common.{sym, subst}
use Rattle.scripts.specs.Numbers.{Splits}
use Rattle.scripts.proofs.Splits.{no_split, split_no_number, split_number}
use Rattle.scripts.proofs.numbers.split_number.Goals as goal

pub returns-in_err-word : goal.returns-in_err-word
returns-in_err-word g c =
    let t = c.args.text.now in
    subst (Splits g.N.Unsigned.value g.N.Unsigned.limit t) (sym c.from_residual.ensures) (no_split g.N.Unsigned.value g.N.Unsigned.limit g.met.N.Unsigned.within t c.in_err-word.ensures.cases)

pub returns-in_err-number : goal.returns-in_err-number
returns-in_err-number g c =
    let t = c.args.text.now in
    let w = c.in_ok-word in
    subst (Splits g.N.Unsigned.value g.N.Unsigned.limit t) (sym c.from_residual-in_err-number.ensures)
    (split_no_number g.N.Unsigned.value g.N.Unsigned.limit g.met.N.Unsigned.within t w.word w.rest w.ensures.cases c.in_err-number.ensures)

pub returns : goal.returns
returns g c =
    let w = c.in_ok-word in
    split_number g.N.Unsigned.value g.N.Unsigned.limit c.args.text.now w.word w.rest c.in_ok-number.field-0 w.ensures.cases c.in_ok-number.ensures
