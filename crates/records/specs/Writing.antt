-- What writing the record of a polygon answers and leaves in the buffer.
use Rattle.std.specs.Prelude.{◌≡◌, ℕ, ◌+◌, cond, List, [], ◌∷◌, ◌++◌, map, length, take, drop, IfOk, Some, None, Ok, Err, Option, Result, nat_le, slice_index_or}
use Rattle.std.specs.Option.{option_map}
use Rattle.outline.specs.declared.point.Point.{Point}
use Rattle.outline.specs.declared.refusal.Refusal.{Refusal}
use Rattle.outline.specs.declared.refusal.Refusal.TheVariants.{NoPolygon, BufferShort, EdgeNoCode}
use Rattle.outline.specs.Held.{origin}
use Rattle.outline.specs.Polygon.{Polygon}
use Rattle.coding.specs.Tables.{Table, price_of}
use Rattle.records.specs.declared.written.Written.{Written}
use Rattle.records.specs.Bytes.{cols, rows, record_of}
use Rattle.records.specs.Reading.{only, Accepted}

-- The vertices that a list of point numbers names.
abbrev pub vertices : List Point → List ℕ → List Point
vertices ps list = map (λ i. slice_index_or ps i origin) list

-- Two numbers added, where there are both.
abbrev pub added : Option ℕ → Option ℕ → Option ℕ
added (Some a) b = option_map (λ n. a + n) b
added None b = None

-- The prices of the displacements from a vertex on, added up, where each has one.
abbrev pub bits_from : Table → Point → List Point → Option ℕ
bits_from t u [] = Some 0
bits_from t u (v ∷ vs) = added (price_of (t (cols u v) (rows u v))) (bits_from t v vs)

-- The bits of a polygon: the prices of its edges added up, or none where an edge has none.
abbrev pub polygon_bits : Table → List Point → Option ℕ
polygon_bits t [] = None
polygon_bits t (u ∷ vs) = bits_from t u vs

-- The answer to writing a record, by its bytes and its bits: 28 where there is none, 25 where the buffer has fewer bytes.
abbrev pub answer : Option (List ℕ) → Option ℕ → ℕ → Result Written Refusal
answer (Some bytes) (Some bits) room = cond (nat_le (length bytes) room) (Ok (record { bytes = length bytes; bits = bits })) (Err BufferShort)
answer (Some bytes) None room = Err EdgeNoCode
answer None bits room = Err EdgeNoCode

-- The buffer after writing a record: its bytes at the front, the others as they were; or all as it was.
abbrev pub stored : Option (List ℕ) → List ℕ → List ℕ
stored (Some bytes) before = cond (nat_le (length bytes) (length before)) (bytes ++ drop (length bytes) before) before
stored None before = before

-- Writing the record of a list of point numbers: 5 and nothing written where the list is no polygon.
pub record Writes (t : Table) (kind : ℕ) (ps : List Point) (list : List ℕ) (before after : List ℕ) (r : Result Written Refusal) : Type 0 where
  pub refused : (Polygon (length ps) list → ⊥) → (r ≡ Err NoPolygon) × (after ≡ before)
  pub answered : Polygon (length ps) list → r ≡ answer (record_of t kind (vertices ps list)) (polygon_bits t (vertices ps list)) (length before)
  pub buffer : Polygon (length ps) list → after ≡ stored (record_of t kind (vertices ps list)) before

-- What was written is a record of the same kind and vertices for a reader, whatever bytes follow.
abbrev pub ReadsBack : Table → ℕ → List Point → List ℕ → Result Written Refusal → Type 0
ReadsBack t kind vs after r = IfOk r (λ w. (rest : List ℕ) → Accepted (only kind t) (take w.bytes after ++ rest) kind vs w.bytes)
