use Rattle.graph.specs.Rows.{offer}
use Rattle.graph.specs.Steps.{Best}
use Rattle.graph.proofs.search.best.Given as goal

abbrev pub invariant-loop-from : goal.invariant-loop-from
invariant-loop-from g l = let k = g.G.Cost.Cost.cost in Best k (λ i. offer k (g.G.Graph.edge l.graph) l.lower i l.to) l.from l.best
