use Rattle.std.proofs.Common.{length, arith}
use Rattle.outline.proofs.Kept.{rules_of}
use Rattle.outline.specs.Plain.{plain}
use Rattle.search.proofs.Bests.{shallow_points}
use Rattle.search.proofs.rows.EdgesGraph.places.Goals as goal

pub returns : goal.returns
returns g c =
    let o = c.args.self.now.outline.now in
    let few = (rules_of o).count.1 in
    let weight = g.W.Weigher.weight c.args.self.now.weigher.now (plain o).points in
    record { number = c.len.ensures; few = omega arith; shallow = shallow_points (length (plain o).points) weight few }
