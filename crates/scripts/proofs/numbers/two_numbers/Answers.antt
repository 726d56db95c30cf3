use Rattle.std.proofs.Common.{ℕ, ◌^◌, ◌<◌, decimal, sym, subst, lit≤}
use Rattle.scripts.specs.Numbers.{Reads, spaced}
use Rattle.scripts.proofs.Splits.{follows}
use Rattle.scripts.proofs.numbers.two_numbers.Goals as goal

pub returns-in_err-second : goal.returns-in_err-second
returns-in_err-second c =
    let t = c.args.text.now in
    let f = c.in_ok-first in
    subst (Reads {A = ℕ × ℕ} (λ p. spaced p.0 (decimal p.1)) (λ p. (p.0 < 2 ^ 64) × (p.1 < 2 ^ 64)) t) (sym c.from_residual-in_err-second.ensures)
    (λ p fits e. c.in_err-second.ensures p.1 fits.1 (follows (2 ^ 64) (lit≤ tt) t f.first p.0 f.rest (decimal p.1) f.ensures fits.0 e))
