use Rattle.std.proofs.Common.{◌^◌, ◌<◌, decimal, sym, subst, lit≤}
use Rattle.scripts.specs.Numbers.{Reads, spaced, four_text}
use Rattle.scripts.proofs.Splits.{follows}
use Rattle.scripts.proofs.numbers.four_numbers.Goals as goal

pub returns-in_err-second : goal.returns-in_err-second
returns-in_err-second c =
    let t = c.args.text.now in
    let f = c.in_ok-first in
    subst (Reads four_text (λ p. (p.0 < 2 ^ 16) × (p.1 < 2 ^ 16) × (p.2 < 2 ^ 16) × (p.3 < 2 ^ 16)) t) (sym c.from_residual-in_err-second.ensures)
    (λ p fits e.
    let rest = spaced p.2 (decimal p.3) in
    c.in_err-second.ensures p.1 rest fits.1 (follows (2 ^ 16) (lit≤ tt) t f.first p.0 f.rest (spaced p.1 rest) f.ensures fits.0 e))

pub returns-in_err-third : goal.returns-in_err-third
returns-in_err-third c =
    let t = c.args.text.now in
    let f = c.in_ok-first in
    let s = c.in_ok-second in
    subst (Reads four_text (λ p. (p.0 < 2 ^ 16) × (p.1 < 2 ^ 16) × (p.2 < 2 ^ 16) × (p.3 < 2 ^ 16)) t) (sym c.from_residual-in_err-third.ensures)
    (λ p fits e.
    let rest = spaced p.2 (decimal p.3) in
    let after = follows (2 ^ 16) (lit≤ tt) t f.first p.0 f.rest (spaced p.1 rest) f.ensures fits.0 e in
    c.in_err-third.ensures p.2 (decimal p.3) fits.2 (follows (2 ^ 16) (lit≤ tt) f.rest.now s.second p.1 s.rest rest s.ensures fits.1 after))

pub returns-in_err-fourth : goal.returns-in_err-fourth
returns-in_err-fourth c =
    let t = c.args.text.now in
    let f = c.in_ok-first in
    let s = c.in_ok-second in
    let u = c.in_ok-third in
    subst (Reads four_text (λ p. (p.0 < 2 ^ 16) × (p.1 < 2 ^ 16) × (p.2 < 2 ^ 16) × (p.3 < 2 ^ 16)) t) (sym c.from_residual-in_err-fourth.ensures)
    (λ p fits e.
    let rest = spaced p.2 (decimal p.3) in
    let after = follows (2 ^ 16) (lit≤ tt) t f.first p.0 f.rest (spaced p.1 rest) f.ensures fits.0 e in
    let later = follows (2 ^ 16) (lit≤ tt) f.rest.now s.second p.1 s.rest rest s.ensures fits.1 after in
    c.in_err-fourth.ensures p.3 fits.3 (follows (2 ^ 16) (lit≤ tt) s.rest.now u.third p.2 u.rest (decimal p.3) u.ensures fits.2 later))
