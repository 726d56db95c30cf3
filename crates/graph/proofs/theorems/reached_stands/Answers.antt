use Rattle.graph.proofs.Reached.{reached_stands}
use Rattle.graph.proofs.theorems.reached_stands.Goals as goal

pub returns : goal.returns
returns g c = reached_stands g.C.Cost.cost
