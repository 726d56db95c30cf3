use Rattle.std.proofs.Common.{None, sym, subst, arith, w16, SFits, rules}
use Rattle.coding.specs.Kinds.{pair, side}
use Rattle.coding.specs.Rows.{row_bits}
use Rattle.coding.specs.Tables.{Reads}
use Rattle.coding.specs.Pairs.{pair_none, side_length, read_unmarked, read_marked}
use Rattle.coding.proofs.pair.PairCoder.read.Goals as goal

pub returns-in_err-dx : goal.returns-in_err-dx
returns-in_err-dx g c =
    let t = g.A.Coder.table c.args.self.now.first in
    let u = g.B.Coder.table c.args.self.now.second in
    let row = row_bits c.args.row in
    let m = c.in_ok-second.second in
    subst (Reads (pair t u) row) (sym c.from_residual-in_err-dx.ensures)
    (pair_none t u (g.met.A.Coder.codes c.args.self.now.first) (g.met.B.Coder.codes c.args.self.now.second) row m c.in_ok-second.ensures
    (subst (λ r. Reads (side m t u) r None) c.skip.ensures c.in_err-dx.ensures))

pub overflow_add-n : goal.overflow_add-n
overflow_add-n g c =
    let t = g.A.Coder.table c.args.self.now.first in
    let u = g.B.Coder.table c.args.self.now.second in
    omega (arith, side_length t u (g.met.A.Coder.codes c.args.self.now.first) (g.met.B.Coder.codes c.args.self.now.second) (row_bits c.args.row) c.in_ok-second.second c.in_ok-dx.dx c.in_ok-dx.dy c.in_ok-dx.n (row_bits c.skip.result) c.in_ok-dx.ensures)

pub returns-in_err-used : goal.returns-in_err-used
returns-in_err-used g c =
    let t = g.A.Coder.table c.args.self.now.first in
    let u = g.B.Coder.table c.args.self.now.second in
    let row = row_bits c.args.row in
    let fx : SFits w16 c.in_ok-dx.dx = search rules in
    let fy : SFits w16 c.in_ok-dx.dy = search rules in
    subst (Reads (pair t u) row) (sym c.from_residual-in_err-used.ensures)
    (read_unmarked t u (g.met.A.Coder.codes c.args.self.now.first) (g.met.B.Coder.codes c.args.self.now.second) row (row_bits c.skip.result) c.in_ok-second.second c.in_ok-dx.dx c.in_ok-dx.dy c.in_ok-dx.n fx fy c.in_ok-second.ensures c.skip.ensures c.in_ok-dx.ensures c.in_err-used.ensures)

pub returns : goal.returns
returns g c =
    let t = g.A.Coder.table c.args.self.now.first in
    let u = g.B.Coder.table c.args.self.now.second in
    let row = row_bits c.args.row in
    let fx : SFits w16 c.in_ok-dx.dx = search rules in
    let fy : SFits w16 c.in_ok-dx.dy = search rules in
    subst (Reads (pair t u) row) (sym c.then_some.ensures)
    (read_marked t u (g.met.A.Coder.codes c.args.self.now.first) (g.met.B.Coder.codes c.args.self.now.second) row (row_bits c.skip.result) c.in_ok-second.second c.in_ok-dx.dx c.in_ok-dx.dy c.in_ok-dx.n fx fy c.in_ok-second.ensures c.skip.ensures c.in_ok-dx.ensures c.in_ok-used.used c.in_ok-used.field-0-1 c.in_ok-used.ensures)
