use Rattle.std.proofs.Common.{length, sym, arith}
use Rattle.outline.specs.Plain.{plain}
use Rattle.measure.specs.Fractions.{above}
use Rattle.measure.proofs.Widening.{widest_more, within_all, within_past}
use Rattle.measure.proofs.tolerance.deviation_within.Goals as goal

pub loop-k-preserved : goal.loop-k-preserved
loop-k-preserved g c =
    let x = c.args in (
      sym {b = above c.widened-widest.result x.tolerance} c.if-is_above.ensures,
      widest_more (λ k. g.M.Measure.strays x.measure.now (plain x.outline.now).points x.i k x.j) x.i c.loop-k.k c.loop-k.widest c.widened-widest.result c.strays.result (omega arith) c.loop-k.invariant.1 c.strays.ensures c.widened-widest.ensures,
    )

pub returns-then-is_above : goal.returns-then-is_above
returns-then-is_above g c =
    let x = c.args in
    let ps = (plain x.outline.now).points in
    let more = widest_more (λ k. g.M.Measure.strays x.measure.now ps x.i k x.j) x.i c.loop-k.k c.loop-k.widest c.widened-widest.result c.strays.result (omega arith) c.loop-k.invariant.1 c.strays.ensures c.widened-widest.ensures in
    within_past (g.M.Measure.strays x.measure.now ps) (length ps) x.i x.j (omega arith) (omega arith) c.loop-k.k c.widened-widest.result x.tolerance (omega arith) more (sym {b = above c.widened-widest.result x.tolerance} c.if-is_above.ensures)

pub returns : goal.returns
returns g c =
    let x = c.args in
    let ps = (plain x.outline.now).points in
    within_all (g.M.Measure.strays x.measure.now ps) (length ps) x.i x.j (omega arith) (omega arith) c.loop-k.k c.loop-k.widest x.tolerance (omega arith) c.loop-k.invariant.1 c.loop-k.invariant.0
