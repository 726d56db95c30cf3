-- What encode answers and leaves in the buffer.
use Rattle.std.specs.Prelude.{◌≡◌, ℕ, ◌≤◌, ◌⊎◌, List, length, take, Some, None, Ok, Err, Option, Result}
use Rattle.coding.specs.Tables.{Table}
use Rattle.measure.specs.Measures.{Strays}
use Rattle.outline.specs.declared.point.Point.{Point}
use Rattle.outline.specs.declared.refusal.Refusal.{Refusal}
use Rattle.outline.specs.declared.refusal.Refusal.TheVariants.{Kind}
use Rattle.records.specs.Bytes.{record_of}
use Rattle.records.specs.Reading.{Accepted, Refused}
use Rattle.records.specs.Numbered.{code_answer}
use Rattle.records.specs.Writing.{vertices, stored}
use Rattle.records.specs.declared.fault.Fault.{Fault}
use Rattle.records.specs.declared.written.Written.{Written}
use Rattle.search.specs.declared.by_price.PricedPolygon.{PricedPolygon}
use Rattle.tracing.specs.Tracing.{chain_only}
use Rattle.closest.specs.Goals.{BestFor}
use Rattle.exchange.specs.declared.failure.Failure.{Failure}
use Rattle.exchange.specs.declared.failure.Failure.TheVariants.{Record as AtRecord, Refused as ByRefusal}
use Rattle.closest.specs.declared.goal.Goal.{Goal}

-- The record of the polygon found has at most 743 bytes, and is written where the buffer has room for it, else 25 is answered; where none is found, the refusal of cheapest or closest is.
abbrev pub FoundWritten : Table → ℕ → List Point → List ℕ → List ℕ → List ℕ → Result PricedPolygon Refusal → Result Written Refusal → Type 0
FoundWritten codes kind ps list before after (Ok a) r =
    (bytes : List ℕ) × (record_of codes kind (vertices ps (take a.vertices list)) ≡ Some bytes) × (length bytes ≤ 743)
    × (r ≡ code_answer (Some bytes) a.bits (length before)) × (after ≡ stored (Some bytes) before)
FoundWritten codes kind ps list before after (Err e) r = (r ≡ Err e) × (after ≡ before)

-- A best polygon of some points is found and its record is written.
abbrev pub BestWritten : Table → ℕ → Strays → Goal → List Point → List ℕ → List ℕ → Result Written Refusal → Type 0
BestWritten codes kind strays goal ps before after r =
    (list : List ℕ) × (found : Result PricedPolygon Refusal) × BestFor goal codes strays ps list found × FoundWritten codes kind ps list before after found r

-- A refusal without a place.
abbrev pub unplaced : Result Written Refusal → Result Written Failure
unplaced (Ok w) = Ok w
unplaced (Err e) = Err (ByRefusal e)

-- Encoding the chain record that bytes begin with, by the table of a kind: 7 where there is no such kind, then the fault of the record, then what its points give.
abbrev pub Encoded : Option Table → ℕ → Strays → Goal → List ℕ → List ℕ → List ℕ → Result Written Failure → Type 0
Encoded None kind strays goal bs before after r = (r ≡ Err (ByRefusal Kind)) × (after ≡ before)
Encoded (Some codes) kind strays goal bs before after r =
    ((fault : Fault) × Refused chain_only bs 256 fault × (r ≡ Err (AtRecord fault)) × (after ≡ before))
    ⊎ ((ps : List Point) × (taken : ℕ) × Accepted chain_only bs 4 ps taken × ((w : Result Written Refusal) × BestWritten codes kind strays goal ps before after w × (r ≡ unplaced w)))
