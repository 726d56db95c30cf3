use Rattle.std.proofs.Common.{sym, arith}
use Rattle.measure.specs.Bounds.{line_in_bounds}
use Rattle.measure.proofs.line.line_from.Goals as goal

pub of-requires-2 : goal.of-requires-2
of-requires-2 c =
    let x = c.args in
    let inside = line_in_bounds x.u x.v x.p c.requires.0 c.requires.1 (sym c.if-eq.ensures) in
    omega arith
