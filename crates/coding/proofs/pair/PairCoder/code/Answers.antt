use Rattle.std.proofs.Common.{arith}
use Rattle.coding.specs.Pairs.{pair_fits}
use Rattle.coding.proofs.pair.PairCoder.code.Goals as goal

pub overflow_add-result : goal.overflow_add-result
overflow_add-result g c =
    let t = g.A.Coder.table c.args.self.now.first in
    let u = g.B.Coder.table c.args.self.now.second in
    omega (arith, pair_fits t u _ _ c.in_ok-second.second _ c.in_ok-bits.bits c.in_ok-bits.n c.in_ok-second.ensures c.in_ok-bits.ensures)
