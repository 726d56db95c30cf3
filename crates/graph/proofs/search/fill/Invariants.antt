use Rattle.std.proofs.Common.{◌≡◌, ◌≤◌, length, take, drop}
use Rattle.graph.specs.Rows.{Table}
use Rattle.graph.proofs.search.fill.Given as goal

abbrev pub invariant-loop-to : goal.invariant-loop-to
invariant-loop-to g l = (l.places ≤ length l.rows) × Table g.G.Cost.Cost.cost (g.G.Graph.edge l.graph) (take l.to l.rows) × (drop l.places l.rows ≡ drop l.places l.initial.rows)
