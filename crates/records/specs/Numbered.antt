-- What writing the record of a polygon by the number of its kind answers and leaves in the buffer.
use Rattle.std.specs.Prelude.{◌≡◌, ℕ, cond, List, ◌++◌, length, take, IfOk, Some, None, Ok, Err, Option, Result, nat_le}
use Rattle.outline.specs.declared.point.Point.{Point}
use Rattle.outline.specs.declared.refusal.Refusal.{Refusal}
use Rattle.outline.specs.declared.refusal.Refusal.TheVariants.{Kind, NoPolygon, BufferShort, EdgeNoCode}
use Rattle.outline.specs.Polygon.{Polygon}
use Rattle.coding.specs.Tables.{Table}
use Rattle.weighing.specs.Edges.{edge_price, polygon_bits}
use Rattle.records.specs.declared.written.Written.{Written}
use Rattle.records.specs.Bytes.{record_of}
use Rattle.records.specs.Reading.{Kinds, Accepted}
use Rattle.records.specs.Writing.{vertices, stored}

-- The answer to writing a record, by its bytes and its code bits: 28 where there is none, 25 where the buffer has fewer bytes.
abbrev pub code_answer : Option (List ℕ) → ℕ → ℕ → Result Written Refusal
code_answer (Some bytes) bits room = cond (nat_le (length bytes) room) (Ok (record { bytes = length bytes; bits = bits })) (Err BufferShort)
code_answer None bits room = Err EdgeNoCode

-- Writing the record of a list of point numbers: 5 and nothing written where the list is no polygon.
pub record Recorded (t : Table) (kind : ℕ) (ps : List Point) (list : List ℕ) (before after : List ℕ) (r : Result Written Refusal) : Type 0 where
  pub refused : (Polygon (length ps) list → ⊥) → (r ≡ Err NoPolygon) × (after ≡ before)
  pub answered : Polygon (length ps) list → r ≡ code_answer (record_of t kind (vertices ps list)) (polygon_bits (edge_price t ps) list) (length before)
  pub buffer : Polygon (length ps) list → after ≡ stored (record_of t kind (vertices ps list)) before

-- Writing a record by the table that the number of its kind has: 7 and nothing written where it has none.
abbrev pub Records : Option Table → ℕ → List Point → List ℕ → List ℕ → List ℕ → Result Written Refusal → Type 0
Records (Some t) kind ps list before after r = Recorded t kind ps list before after r
Records None kind ps list before after r = (r ≡ Err Kind) × (after ≡ before)

-- What was written is a record of the same kind and vertices for a reader of some kinds, whatever bytes follow.
abbrev pub KnownBack : Kinds → ℕ → List Point → List ℕ → Result Written Refusal → Type 0
KnownBack known kind vs after r = IfOk r (λ w. (rest : List ℕ) → Accepted known (take w.bytes after ++ rest) kind vs w.bytes)
