use Rattle.std.proofs.Common.{refl}
use Rattle.std.proofs.Output.{has_written_append, has_written_of_eq}
use Rattle.exchange.proofs.Lines.{lines_more}
use Rattle.exchange.proofs.shown.DecodedDisplay.fmt.Goals as goal

pub loop-vertex-preserved : goal.loop-vertex-preserved
loop-vertex-preserved g c = λ plain.
    let before = c.loop-vertex.invariant plain in
    let line = c.in_ok-writeln-2.ensures.writes before.plain refl in
    has_written_of_eq g.W.Write.write_str_gives _ _ _ _ (lines_more _ _ _ c.loop-vertex-test.true) (has_written_append g.W.Write.write_str_gives _ _ _ _ _ before line)
