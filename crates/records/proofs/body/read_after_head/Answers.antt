use Rattle.std.proofs.Common.{◌+◌, length}
use Rattle.records.proofs.Bodies.{body_whole}
use Rattle.records.proofs.body.read_after_head.Goals as goal

pub returns : goal.returns
returns g c = body_whole (g.C.Coder.table c.args.coder.now) _ c.args.head.kind (length c.args.head.codes.now + 9) _ _ _ _ c.in_ok-vertices.vertices c.in_ok-vertices.ensures
