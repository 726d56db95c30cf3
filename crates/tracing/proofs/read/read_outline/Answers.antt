use Rattle.std.proofs.Common.{take, sym, ap, ◌∙◌, subst, arith}
use Rattle.std.proofs.lemmas.Option.{MatchOption-at_some}
use Rattle.outline.specs.Rules.{Rules}
use Rattle.records.specs.Reading.{Accepted}
use Rattle.tracing.specs.Tracing.{chain_only, in_largest}
use Rattle.tracing.proofs.Chains.{accepted_rules, kind_four, front_read, front_fits}
use Rattle.tracing.proofs.Walks.{traced_some}
use Rattle.tracing.proofs.read.read_outline.Goals as goal

pub slice_bounds-trace-end : goal.slice_bounds-trace-end
slice_bounds-trace-end c =
    let r = c.in_ok-reading.ensures.right in
    let fits = front_fits c.read_chain.new.list r.0 _ c.in_ok-reading.reading.vertices r.3 r.2 in
    omega arith

pub unwrap-outline-requires : goal.unwrap-outline-requires
unwrap-outline-requires c =
    let r = c.in_ok-reading.ensures.right in
    let n = c.in_ok-reading.reading.vertices in
    let list = c.read_chain.new.list in
    let fits = front_fits list r.0 _ n r.3 r.2 in
    let rules = accepted_rules c.args.bytes.now r.0 _ _ r.1 (omega arith) in
    let front = ap (λ k. take k list) (omega arith) ∙ front_read list r.0 _ n r.3 r.2 in
    traced_some c.trace.result _ (subst (λ ps. Rules (in_largest ps)) (sym front) rules) c.trace.ensures

pub returns : goal.returns
returns c =
    let r = c.in_ok-reading.ensures.right in
    let n = c.in_ok-reading.reading.vertices in
    let bs = c.args.bytes.now in
    let list = c.read_chain.new.list in
    let front = ap (λ k. take k list) (omega arith) ∙ front_read list r.0 _ n r.3 r.2 in
    let traced = MatchOption-at_some _ _ c.unwrap-outline.result c.unwrap-outline.ensures c.trace.ensures in
    (r.0, _, subst (λ k. Accepted chain_only bs k r.0 c.in_ok-reading.reading.bytes) (kind_four bs r.0 _ _ r.1) r.1, traced ∙ ap in_largest front)
