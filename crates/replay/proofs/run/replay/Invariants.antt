use Rattle.std.proofs.Common.{◌≡◌, ◌≤◌, length, take, drop}
use Rattle.replay.specs.Right.{tools, state}
use Rattle.replay.specs.Runs.{Run}
use Rattle.replay.proofs.run.replay.Given as goal

abbrev pub invariant-loop-i : goal.invariant-loop-i
invariant-loop-i g l =
    (l.i ≤ length l.calls)
    × Run (tools g.W.Cost.Cost.cost (g.W.Weigher.weight l.weigher) (g.C.Coder.table l.coder) (g.M.Measure.strays l.measure))
    (state l.initial.outline l.initial.rows l.initial.priced l.initial.straying l.initial.list)
    (take l.i l.calls) (take l.i l.entries)
    (state l.outline l.rows l.priced l.straying l.list)
    × (drop l.i l.entries ≡ drop l.i l.initial.entries)
