use Rattle.std.proofs.Common.{Err, ap, ◌∙◌}
use Rattle.std.proofs.lemmas.Result.{err_from_is_err_and}
use Rattle.measure.specs.Choice.{chosen_strays}
use Rattle.exchange.specs.declared.failure.Failure.TheVariants.{Refused as ByRefusal}
use Rattle.exchange.proofs.Exits.{at_unknown, at_fault, at_refusal, at_end}
use Rattle.exchange.proofs.encoding.encode.Goals as goal

pub returns-in_err-kind : goal.returns-in_err-kind
returns-in_err-kind c =
    let none = c.in_err-kind.ensures in
    let p = err_from_is_err_and c.from_residual.result c.from_residual.ensures.1 in
    let is = p.1 ∙ ap (λ f. Err f) (p.2 ∙ ap (λ e. ByRefusal e) none.0) in
    let all = at_unknown c.args.order.kind (chosen_strays c.args.order.measure) c.args.order.goal c.args.bytes.now c.args.buffer.now c.from_residual.result none.1 is in
    record { right = all.0; within = all.1; ample = all.2 }

pub returns-in_err-outline : goal.returns-in_err-outline
returns-in_err-outline c =
    let p = err_from_is_err_and c.from_residual-in_err-outline.result c.from_residual-in_err-outline.ensures.1 in
    let is = p.1 ∙ ap (λ f. Err f) p.2 in
    let all = at_fault c.args.order.kind (chosen_strays c.args.order.measure) c.args.order.goal c.args.bytes.now c.args.buffer.now c.in_ok-kind.kind c.in_ok-kind.ensures
    c.from_residual-in_err-outline.result _ c.in_err-outline.ensures is in
    record { right = all.0; within = all.1; ample = all.2 }

pub returns-in_err-write_best : goal.returns-in_err-write_best
returns-in_err-write_best c =
    let p = err_from_is_err_and c.from_residual-in_err-write_best.result c.from_residual-in_err-write_best.ensures.1 in
    let is = p.1 ∙ ap (λ f. Err f) p.2 in
    let all = at_refusal c.args.order.kind (chosen_strays c.args.order.measure) c.args.order.goal c.args.bytes.now c.args.buffer.now c.in_ok-kind.kind c.in_ok-kind.ensures
    c.in_ok-outline.outline c.in_ok-outline.ensures c.write_best.new.buffer c.from_residual-in_err-write_best.result _ c.in_err-write_best.ensures is in
    record { right = all.0; within = all.1; ample = all.2 }

pub returns : goal.returns
returns c =
    let all = at_end c.args.order.kind (chosen_strays c.args.order.measure) c.args.order.goal c.args.bytes.now c.args.buffer.now c.in_ok-kind.kind c.in_ok-kind.ensures
    c.in_ok-outline.outline c.in_ok-outline.ensures c.write_best.new.buffer c.in_ok-write_best.field-0 c.in_ok-write_best.ensures in
    record { right = all.0; within = all.1; ample = all.2 }
