use Rattle.std.proofs.Common.{length, refl, ap, arith}
use Rattle.graph.proofs.Chains.{one_read_back}
use Rattle.graph.proofs.back.read_back.Goals as goal

pub returns-then-count-list : goal.returns-then-count-list
returns-then-count-list g c =
    let found = c.in_ok-count.ensures in
    ((λ vs back _. omega (arith, c.if-count-list.true, found.2, ap length (one_read_back back found.1))), refl {a = c.args.list.now})
