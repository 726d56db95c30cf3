use Rattle.graph.proofs.Reached.{read_back_stands}
use Rattle.graph.proofs.theorems.read_back_stands.Goals as goal

pub returns : goal.returns
returns g c = read_back_stands g.C.Cost.cost
