use Rattle.std.proofs.Common.{None, sym, subst}
use Rattle.scripts.specs.Numbers.{Reads}
use Rattle.scripts.specs.Words.{arguments, Begun}
use Rattle.scripts.specs.declared.word.Word.{Word}
use Rattle.scripts.specs.declared.word.Word.TheVariants.{Open, LeastPriced, Cheapest}
use Rattle.scripts.proofs.Begins.{none_of}
use Rattle.scripts.proofs.parse.read_command.Goals as goal

pub returns-in_err-width-in-Open : goal.returns-in_err-width-in-Open
returns-in_err-width-in-Open c =
    let t = c.args.text.now in
    let none = subst (λ (w : Word). Reads arguments (Begun w) t None) (sym c.in-Open.is) (none_of Open t (λ p fits e. c.in_err-width-in-Open.ensures p fits e)) in
    subst (Reads arguments (Begun c.args.word) t) (sym c.from_residual-in_err-width-in-Open.ensures) none

pub returns-in_err-top-in-LeastPriced : goal.returns-in_err-top-in-LeastPriced
returns-in_err-top-in-LeastPriced c =
    let t = c.args.text.now in
    let none = subst (λ (w : Word). Reads arguments (Begun w) t None) (sym c.in-LeastPriced.is) (none_of LeastPriced t (λ p fits e. c.in_err-top-in-LeastPriced.ensures p fits e)) in
    subst (Reads arguments (Begun c.args.word) t) (sym c.from_residual-in_err-top-in-LeastPriced.ensures) none

pub returns-in_err-top-in-Cheapest : goal.returns-in_err-top-in-Cheapest
returns-in_err-top-in-Cheapest c =
    let t = c.args.text.now in
    let none = subst (λ (w : Word). Reads arguments (Begun w) t None) (sym c.in-Cheapest.is) (none_of Cheapest t (λ p fits e. c.in_err-top-in-Cheapest.ensures p fits e)) in
    subst (Reads arguments (Begun c.args.word) t) (sym c.from_residual-in_err-top-in-Cheapest.ensures) none
