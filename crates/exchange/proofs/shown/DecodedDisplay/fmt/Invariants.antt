use Rattle.std.proofs.Common.{take}
use Rattle.std.specs.Fmt.{IsPlainFormatter, HasWritten}
use Rattle.exchange.specs.Texts.{vertex_lines}
use Rattle.exchange.proofs.shown.DecodedDisplay.fmt.Given as goal

abbrev pub invariant-loop-vertex : goal.invariant-loop-vertex
invariant-loop-vertex g l = IsPlainFormatter l.initial.f → HasWritten g.W.Write.write_str_gives l.initial.f (vertex_lines (take l.vertex-index l.vertices)) l.f
