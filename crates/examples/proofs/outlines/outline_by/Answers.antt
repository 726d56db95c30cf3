use Rattle.std.proofs.Common.{◌+◌, map, drop, sym, ap, ◌∙◌, arith, drop_of_length-le}
use Rattle.outline.specs.Plain.{Plain, plain}
use Rattle.outline.specs.Runs.{after}
use Rattle.outline.specs.declared.call.Call.TheVariants.{Extend}
use Rattle.std.proofs.lemmas.List.{drop_more}
use Rattle.examples.proofs.outlines.outline_by.Goals as goal

pub loop-direction-preserved : goal.loop-direction-preserved
loop-direction-preserved c =
    let ds = c.args.directions.now in
    let i = c.loop-direction.direction-index in
    ap (λ p. after p (map Extend (drop (i + 1) ds))) c.extend.ensures.after
    ∙ sym (ap (λ xs. after (plain c.loop-direction.outline) (map Extend xs)) (drop_more ds i 0 c.loop-direction-test.true))
    ∙ c.loop-direction.invariant

pub returns : goal.returns
returns c =
    let ds = c.args.directions.now in
    ap (λ (p : Plain). p.points) (sym (ap (λ xs. after (plain c.loop-direction.outline) (map Extend xs)) (drop_of_length-le ds (omega arith))) ∙ c.loop-direction.invariant)
