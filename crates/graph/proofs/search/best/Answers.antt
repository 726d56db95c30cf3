use Rattle.std.proofs.Common.{refl}
use Rattle.graph.proofs.Filling.{offer_more, offer_skips}
use Rattle.graph.proofs.search.best.Goals as goal
use Rattle.graph.proofs.search.best.Goals.{in-Some, in_default}

pub loop-from-preserved : goal.loop-from-preserved
loop-from-preserved g c =
    let k = g.G.Cost.Cost.cost in
    let graph = c.args.graph.now in
    let rows = c.args.lower.now in
    let edge = g.G.Graph.edge graph in
    let from = c.loop-from.from in
    let row = c.index-lower-from.result in
    let read = c.index-lower-from.is in
    elim c.match-offered.branch [
      | in-Some w ↦
          offer_more k edge rows from c.loop-from-test.true row read c.loop-from.best c.match-offered.best c.loop-from.invariant
          (g.G.Graph.places graph) (g.G.Graph.depth graph) c.requires.shallow g.met.G.Cost.Cost.laws c.requires.place c.requires.table
          _ w.better.result refl w.in-Some.ensures w.better.ensures w.best-is
      | in_default w ↦ offer_skips k edge rows from c.loop-from-test.true row read c.loop-from.best c.match-offered.best c.loop-from.invariant w.in_default.ensures w.best-is
    ]
