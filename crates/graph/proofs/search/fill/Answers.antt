use Rattle.std.proofs.Common.{◌≡◌, take, drop, ◌∙◌, subst, arith, length-set}
use Rattle.std.proofs.lemmas.List.{drop-set-lt}
use Rattle.graph.proofs.Filling.{table_more}
use Rattle.graph.specs.Rows.{Table}
use Rattle.graph.proofs.search.fill.Goals as goal

pub loop-to-preserved : goal.loop-to-preserved
loop-to-preserved g c =
    let k = g.G.Cost.Cost.cost in
    let edge = g.G.Graph.edge c.args.graph.now in
    let rows = c.loop-to.rows in
    let to = c.loop-to.to in
    let next = c.row-next.result in (
      simp length-set (omega (arith, c.loop-to.invariant.0)),
      table_more k edge rows to next (omega (arith, c.loop-to.invariant.0)) c.loop-to.invariant.1 c.row-next.ensures,
      drop-set-lt c.places-places.result rows to next c.loop-to-test.true ∙ c.loop-to.invariant.2,
    )

pub returns : goal.returns
returns g c =
    let e = c.places-places.ensures.number in
    let rows = c.loop-to.rows in (
      omega arith,
      subst (λ n. Table g.G.Cost.Cost.cost (g.G.Graph.edge c.args.graph.now) (take n rows)) (omega arith) c.loop-to.invariant.1,
      subst (λ n. drop n rows ≡ drop n c.args.rows.now) e c.loop-to.invariant.2,
    )
