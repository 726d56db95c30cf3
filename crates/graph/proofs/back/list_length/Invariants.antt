use Rattle.graph.proofs.Counting.{Counted}
use Rattle.graph.proofs.back.list_length.Given as goal

abbrev pub invariant-loop-at : goal.invariant-loop-at
invariant-loop-at g l = Counted l.rows l.to l.at l.count

abbrev pub decreases-loop-at : goal.decreases-loop-at
decreases-loop-at g l = l.at
