use Rattle.std.proofs.Common.{◌≡◌, ℕ, ◌^◌, ◌<◌, List, length, take, drop}
use Rattle.graph.specs.Paths.{ReadBack}
use Rattle.graph.proofs.back.write_back.Given as goal

abbrev pub invariant-loop-k : goal.invariant-loop-k
invariant-loop-k g l =
    (vs : List ℕ) × ReadBack l.rows l.to vs × (length vs ≡ length l.list)
    × (0 < l.k → (l.at < 2 ^ 16) × ReadBack l.rows l.at (take l.k vs)) × (drop l.k l.list ≡ drop l.k vs)
