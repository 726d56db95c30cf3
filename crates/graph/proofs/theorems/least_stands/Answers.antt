use Rattle.graph.proofs.Least.{least_stands}
use Rattle.graph.proofs.theorems.least_stands.Goals as goal

pub returns : goal.returns
returns g c = least_stands g.C.Cost.cost g.met.C.Cost.laws
