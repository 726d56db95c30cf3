use Rattle.std.proofs.Common.{◌≡◌, ◌*◌, ◌≤◌, ◌∷◌, take}
use Rattle.coding.specs.Rows.{row_bits}
use Rattle.records.specs.Reading.{Spelled}
use Rattle.records.proofs.Spelling.{last_of}
use Rattle.records.proofs.edges.read_edges.Given as goal

abbrev pub invariant-loop-e : goal.invariant-loop-e
invariant-loop-e g l =
    (l.from ≡ last_of l.fn.start (take l.e l.places))
    × (l.bit ≤ 32 * l.e)
    × Spelled (g.C.Coder.table l.coder) (row_bits l.row) (l.fn.start ∷ take l.e l.places) l.bit
