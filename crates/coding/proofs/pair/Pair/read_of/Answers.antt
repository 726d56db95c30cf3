use Rattle.std.proofs.Common.{Bool, sym, subst}
use Rattle.coding.specs.Kinds.{side}
use Rattle.coding.specs.Rows.{row_bits}
use Rattle.coding.specs.Tables.{Reads}
use Rattle.coding.proofs.pair.Pair.read_of.Goals as goal

pub returns-then-second : goal.returns-then-second
returns-then-second g c =
    subst (λ (b : Bool). Reads (side b (g.A.Coder.table c.args.self.now.first) (g.B.Coder.table c.args.self.now.second)) (row_bits c.args.row) c.read.result) (sym c.if-second.true) c.read.ensures

pub returns-else-second : goal.returns-else-second
returns-else-second g c =
    subst (λ (b : Bool). Reads (side b (g.A.Coder.table c.args.self.now.first) (g.B.Coder.table c.args.self.now.second)) (row_bits c.args.row) c.read-else-second.result) (sym c.if-second.false) c.read-else-second.ensures
