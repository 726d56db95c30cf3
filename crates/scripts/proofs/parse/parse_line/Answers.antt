use Rattle.std.proofs.Common.{sym, subst, ◌∙◌}
use Rattle.scripts.specs.Commands.{Fitting, command_text}
use Rattle.scripts.specs.Numbers.{Reads}
use Rattle.scripts.proofs.Lettered.{no_text}
use Rattle.scripts.proofs.parse.parse_line.Goals as goal

pub returns-in_err-text : goal.returns-in_err-text
returns-in_err-text c =
    let line = c.args.line.now in
    subst (Reads command_text Fitting line) (sym c.from_residual.ensures) (no_text line c.from_utf8.result _ _ (sym c.ok.ensures.value ∙ c.in_err-text.was) c.from_utf8.ensures.cases)
