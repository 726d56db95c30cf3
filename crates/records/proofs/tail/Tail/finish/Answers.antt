use Rattle.std.proofs.Common.{◌-◌, arith}
use Rattle.records.proofs.Filling.{last_byte, last_fits}
use Rattle.records.proofs.tail.Tail.finish.Goals as goal

pub overflow_cast-body-then-self-gt0 : goal.overflow_cast-body-then-self-gt0
overflow_cast-body-then-self-gt0 c = let t = c.args.self in omega (arith, last_fits t.bits t.len t.spelled t.few)

pub returns-then-self-gt0 : goal.returns-then-self-gt0
returns-then-self-gt0 c =
    let t = c.args.self in
    let few = t.few in
    let room = c.requires in
    (8 - t.len, omega arith, last_byte c.args.body.now t.at t.bits t.len t.spelled t.few (omega arith))
