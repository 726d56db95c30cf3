-- What is printed.
use Rattle.std.specs.Prelude.{ℕ, List, [], ◌∷◌, ◌++◌, take, codes, decimal}
use Rattle.outline.specs.declared.point.Point.{Point}
use Rattle.outline.specs.Refusals.{number}
use Rattle.outline.specs.declared.refusal.Refusal.{Refusal}
use Rattle.records.specs.declared.fault.Fault.{Fault}
use Rattle.records.specs.declared.fault.Fault.TheVariants.{Head, Code, End, List as Full}
use Rattle.records.specs.Faults.{refusal_of, byte_of}
use Rattle.exchange.specs.declared.decoded.Decoded.{Decoded}
use Rattle.exchange.specs.declared.failure.Failure.{Failure}
use Rattle.exchange.specs.declared.failure.Failure.TheVariants.{Record, Refused}

-- An edge and a bit.
abbrev pub edge_text : ℕ → ℕ → List ℕ
edge_text edge bit = codes " edge " ++ (decimal edge ++ (codes " bit " ++ decimal bit))

-- A refusal by its number.
abbrev pub number_text : ℕ → List ℕ
number_text n = codes "refused " ++ decimal n

-- A fault of a record: the number of its refusal, and its place.
abbrev pub fault_text : ℕ → Fault → List ℕ
fault_text n (Head f) = codes "refused " ++ (decimal n ++ (codes " byte " ++ decimal (byte_of f)))
fault_text n (Code f edge bit) = codes "refused " ++ (decimal n ++ edge_text edge bit)
fault_text n (End f edge bit) = codes "refused " ++ (decimal n ++ edge_text edge bit)
fault_text n Full = number_text n

-- The refusal by which is told why nothing is answered.
abbrev pub failure_refusal : Failure → Refusal
failure_refusal (Record f) = refusal_of f
failure_refusal (Refused e) = e

-- Why nothing is answered.
abbrev pub failure_text : Failure → List ℕ
failure_text (Record f) = fault_text (number (refusal_of f)) f
failure_text (Refused e) = number_text (number e)

-- The line of a kind.
abbrev pub kind_line : ℕ → List ℕ
kind_line kind = codes "kind " ++ (decimal kind ++ 10 ∷ [])

-- The line of a vertex: its column, then its row.
abbrev pub vertex_line : Point → List ℕ
vertex_line p = decimal p.col ++ (codes " " ++ (decimal p.row ++ 10 ∷ []))

-- The lines of vertices, one after the other.
abbrev pub vertex_lines : List Point → List ℕ
vertex_lines [] = []
vertex_lines (p ∷ ps) = vertex_line p ++ vertex_lines ps

-- A decoded record: the line of its kind, then those of its vertices.
abbrev pub decoded_text : Decoded → List ℕ
decoded_text d = kind_line d.kind ++ vertex_lines (take d.vertices d.points)
