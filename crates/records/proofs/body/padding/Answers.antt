use Rattle.std.proofs.Common.{arith}
use Rattle.std.proofs.lemmas.Bool.{both_ways}
use Rattle.coding.specs.Rows.{row_bits}
use Rattle.records.proofs.Bodies.{zero_number}
use Rattle.records.proofs.body.padding.Goals as goal
use Rattle.records.proofs.body.padding.Goals.{else-len-lt8-via-then-len-lt8+else-eq, else-len-lt8-via-else-len-lt8}

pub returns-then-eq : goal.returns-then-eq
returns-then-eq c = (omega arith, (zero_number (row_bits c.args.row) c.len-then-len-lt8.result c.number.result c.eq.result c.len-then-len-lt8.ensures (omega arith) c.number.ensures c.eq.ensures).0 c.if-eq.true)

pub returns-else-len-lt8 : goal.returns-else-len-lt8
returns-else-len-lt8 c p =
    elim c.else-len-lt8.branch [
      | else-len-lt8-via-then-len-lt8+else-eq w ↦
          both_ways w.eq.result w.if-eq.false ((zero_number (row_bits c.args.row) w.len-then-len-lt8.result w.number.result w.eq.result w.len-then-len-lt8.ensures (omega arith) w.number.ensures w.eq.ensures).1 p.1)
      | else-len-lt8-via-else-len-lt8 w ↦ omega arith
    ]
