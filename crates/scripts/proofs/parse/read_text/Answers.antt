use Rattle.std.proofs.Common.{sym, ◌∙◌, subst}
use Rattle.scripts.specs.Commands.{command_text, Fitting}
use Rattle.scripts.specs.Numbers.{Reads}
use Rattle.scripts.specs.Words.{word_of, arguments}
use Rattle.scripts.proofs.Begins.{in_two, read_on}
use Rattle.scripts.proofs.parse.read_text.Goals as goal

pub returns-in_err-word : goal.returns-in_err-word
returns-in_err-word c =
    subst (Reads command_text Fitting c.args.line.now) (sym c.from_residual.ensures)
    (λ a fits e. c.in_err-word.ensures (word_of a) (arguments a) (e ∙ in_two a))

pub returns : goal.returns
returns c =
    let w = c.in_ok-word in
    read_on c.args.line.now w.word w.rest.now c.read_command.result w.ensures c.read_command.ensures
