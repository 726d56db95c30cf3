use Rattle.std.proofs.Common.{arith}
use Rattle.replay.proofs.Places.{copied}
use Rattle.replay.proofs.entry.first_places.Goals as goal

pub returns : goal.returns
returns c = copied c.args.list.now c.copy_from_slice.new.self c.min-count.result (omega arith) c.copy_from_slice.ensures.after
