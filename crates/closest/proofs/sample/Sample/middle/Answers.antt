use Rattle.std.proofs.Common.{◌≡◌, ◌<◌, length, get_or, sym, ap, ◌∙◌, subst, arith}
use Rattle.std.proofs.lemmas.List.{get_or_default}
use Rattle.std.specs.Option.{IsSomeAnd}
use Rattle.std.specs.Slice.Iter.{iter_rest}
use Rattle.measure.specs.Fractions.{zero as nought}
use Rattle.closest.proofs.Kept.{among_counted, among_picked}
use Rattle.closest.specs.Gaps.{Among}
use Rattle.closest.proofs.sample.Sample.middle.Goals as goal

pub returns : goal.returns
returns c =
    let s = c.args.self.now in
    let xs = c.counted.result.now in
    let picked = c.min_by_key.ensures.runs in
    let copied = c.copied.ensures.runs picked.0 picked.0.seen picked.1 in
    let read = c.iter.ensures.runs copied.0 copied.0.seen in
    let rest : iter_rest copied.0.from ≡ xs = ap iter_rest copied.1 ∙ c.iter.ensures.rest in
    let first : Among s (get_or s.kept 0 c.index-self-0.result) = (0, omega arith, get_or_default s.kept 0 c.index-self-0.result nought (omega (arith, s.long))) in
    subst (Among s) (sym c.unwrap_or.ensures)
    (among_picked s c.min_by_key.result _ _ _ first picked.3
    (λ x any.
    let at = any.0 in
    let early : at.0 < copied.0.len = omega (arith, at.1, copied.2.1) in
    let is = subst (λ o. IsSomeAnd o (λ y. y ≡ x)) (copied.2.3 at.0 ∙ read.2 at.0 nought early) at.2 in
    among_counted s xs at.0 x c.counted.ensures (omega (arith, early, read.0, ap length rest)) (sym (ap (λ ys. get_or ys at.0 nought) rest) ∙ is)))
