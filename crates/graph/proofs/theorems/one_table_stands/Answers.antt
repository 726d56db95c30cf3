use Rattle.graph.proofs.Tables.{one_table}
use Rattle.graph.proofs.theorems.one_table_stands.Goals as goal

pub returns : goal.returns
returns g c = one_table g.C.Cost.cost
