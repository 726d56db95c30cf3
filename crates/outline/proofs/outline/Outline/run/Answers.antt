use Rattle.std.proofs.Common.{◌<◌, length, set, ap, ◌∙◌, arith, length-set, length-take}
use Rattle.std.proofs.lemmas.List.{get_or-take}
use Rattle.outline.specs.Plain.{plain, answer, left_by}
use Rattle.outline.specs.Runs.{made}
use Rattle.outline.specs.declared.call.Call.TheVariants.{Open}
use Rattle.outline.proofs.Steps.{after_more, answers_more}
use Rattle.outline.proofs.outline.Outline.run.Goals as goal

pub loop-i-preserved : goal.loop-i-preserved
loop-i-preserved c =
    let p = plain c.args.self.now in
    let cs = c.args.calls.now in
    let old = c.args.answers.now in
    let i = c.loop-i.i in
    let q = plain c.loop-i.self in
    let rs = c.loop-i.answers in
    let n = c.min-made.result in
    let within : (i < n) × (i < length cs) = omega (arith, length-take n cs, c.loop-i-test.true) in
    let here = get_or-take n cs i (Open 0 0 0 0) within.0 in
    let less : i < length old = omega arith in (
      simp length-set (omega arith),
      c.call.ensures.after ∙ ap (λ x. left_by q (made q x)) here ∙ after_more p cs old i (Open 0 0 0 0) within.1 q c.loop-i.invariant.1,
      ap (set rs i) (c.call.ensures.said ∙ ap (λ x. answer (made q x)) here) ∙ answers_more p cs old i (Open 0 0 0 0) within.1 q rs c.loop-i.invariant.1 less c.loop-i.invariant.2,
    )
