use Rattle.std.proofs.Common.{sym, arith}
use Rattle.std.specs.List.{slice_get}
use Rattle.graph.proofs.Counting.{counted_more, counted_stops, counted_all, counted_away}
use Rattle.graph.proofs.Options.{not_both}
use Rattle.graph.proofs.back.list_length.Goals as goal

pub loop-at-preserved : goal.loop-at-preserved
loop-at-preserved g c =
    counted_more c.args.rows.now c.args.to c.loop-at.at c.loop-at.count c.loop-at.invariant c.in_ok-at.at c.loop-at-test.true (sym c.in_ok-at.ensures)

pub returns-in_err-at : goal.returns-in_err-at
returns-in_err-at g c =
    rw c.from_residual.ensures
    (counted_stops c.args.rows.now c.args.to c.loop-at.at c.loop-at.count c.loop-at.invariant c.loop-at-test.true (sym c.in_err-at.ensures))

pub returns-in_err-start : goal.returns-in_err-start
returns-in_err-start g c =
    let rows = c.args.rows.now in
    rw c.from_residual-in_err-start.ensures
    (counted_away rows c.args.to c.loop-at.at c.loop-at.count c.loop-at.invariant (omega arith)
    (λ row here reached. not_both (slice_get rows 0) row (sym c.in_err-start.ensures.value) here))

pub returns : goal.returns
returns g c =
    rw c.then_some.ensures
    (counted_all c.args.rows.now c.args.to c.loop-at.at c.loop-at.count c.loop-at.invariant c.in_ok-start.start.now (omega arith) (sym c.in_ok-start.ensures.value))
