use Rattle.std.proofs.Common.{◌+◌, length, Err, ap, ◌∙◌, arith, rules}
use Rattle.std.proofs.lemmas.Result.{err_from_is_err_and}
use Rattle.coding.specs.Rows.{row_bits}
use Rattle.records.specs.declared.fault.Fault.{Fault}
use Rattle.records.specs.declared.fault.Fault.TheVariants.{Code}
use Rattle.records.proofs.Traversal.{spelled_more, mapped_ok, mapped_err, stepped_to, stopped_at, traversed_err}
use Rattle.records.proofs.edges.read_edges.Goals as goal

pub loop-e-preserved : goal.loop-e-preserved
loop-e-preserved g c =
    let t = g.C.Coder.table c.args.coder.now in
    let row = row_bits c.args.row in
    let l = c.loop-e in
    let to = c.in_ok-to.to in
    let n = c.in_ok-to.length in
    let inv = l.invariant in
    let ok = mapped_ok Fault c.next_vertex.result (to, n) c.in_ok-to.ensures.cases in
    let leads = stepped_to t _ _ _ c.next_vertex.result to n c.skip.ensures c.next_vertex.ensures ok in
    let sized = (g.met.C.Coder.codes c.args.coder.now).sized _ _ leads.code leads.coded in
    let more = spelled_more t row c.args.start l.places l.e l.bit l.from to n (omega arith) inv.0 inv.2 leads in
    (more.0, omega (arith, sized.1, leads.long), more.1)

pub returns-in_err-to : goal.returns-in_err-to
returns-in_err-to g c =
    let t = g.C.Coder.table c.args.coder.now in
    let row = row_bits c.args.row in
    let l = c.loop-e in
    let p = err_from_is_err_and c.from_residual.result c.from_residual.ensures.1 in
    let k = mapped_err c.next_vertex.result c.in_err-to.field-0.0 (λ k. Code k (l.e + 1) l.bit) c.in_err-to.ensures.cases (λ k made. search rules) in
    let stopped = stopped_at t row _ c.args.start l.places (length c.args.places.now) l.e l.bit l.from c.next_vertex.result k.0 (omega arith) (omega arith) l.invariant.0 l.invariant.2 c.skip.ensures c.next_vertex.ensures k.1 in
    traversed_err t row c.args.start (length c.args.places.now) _ k.0 (l.e + 1) l.bit c.from_residual.result (p.1 ∙ ap Err (p.2 ∙ k.2)) stopped
