-- The promises of the reader's inner steps.
use Rattle.std.specs.Prelude.{◌≡◌, ℕ, suc, ◌+◌, ◌-◌, ◌<◌, ◌≤◌, Bool, List, ◌++◌, length, get_or, take, drop, Some, Ok, Err, Result, slice_index_or}
use Rattle.outline.specs.declared.point.Point.{Point}
use Rattle.outline.specs.Held.{origin}
use Rattle.coding.specs.Bits.{Begins}
use Rattle.coding.specs.Tables.{Table}
use Rattle.records.specs.declared.fault.BitFault.TheVariants.{Trailing}
use Rattle.records.specs.declared.fault.CoderFault.{CoderFault}
use Rattle.records.specs.declared.fault.Fault.{Fault}
use Rattle.records.specs.declared.fault.Fault.TheVariants.{Head, Code, End, List as Full}
use Rattle.records.specs.declared.fault.HeadFault.TheVariants.{Short, Kind, Column, Row}
use Rattle.records.specs.declared.reading.Reading.{Reading}
use Rattle.records.specs.Bytes.{cols, rows}
use Rattle.records.specs.Reading.{Inside, Padding, Spelled, WrongCode}

-- A code of a length begins a row of bits and leads from a point to another inside.
pub record Leads (t : Table) (row : List Bool) (from to : Point) (n : ℕ) : Type 0 where
  pub code : List Bool
  pub coded : t (cols from to) (rows from to) ≡ Some code
  pub begins : Begins code row
  pub long : n ≡ length code
  pub inside : Inside to

-- What one step along the codes answers.
abbrev pub Stepped : Table → List Bool → Point → Result (Point × ℕ) CoderFault → Type 0
Stepped t row from (Ok r) = Leads t row from r.0 r.1
Stepped t row from (Err f) = WrongCode t row from f

-- Where reading the codes stops: at an edge, with all vertices before it spelled.
pub record Stopped (t : Table) (row : List Bool) (start : Point) (edges : ℕ) (fault : CoderFault) (edge bit : ℕ) : Type 0 where
  pub within : edge ≤ edges
  pub vertices : List Point
  pub first : get_or vertices 0 origin ≡ start
  pub count : length vertices ≡ edge
  pub spelled : Spelled t row vertices bit
  pub wrong : WrongCode t (drop bit row) (slice_index_or vertices (edge - 1) origin) fault

-- What reading all codes answers, with the points that it has filled in after the start.
abbrev pub Traversed : Table → List Bool → Point → ℕ → List Point → Result ℕ Fault → Type 0
Traversed t row start edges at (Ok bit) = Spelled t row (take (edges + 1) at) bit × (slice_index_or at 0 origin ≡ start)
Traversed t row start edges at (Err (Code fault edge bit)) = Stopped t row start edges fault edge bit
Traversed t row start edges at (Err (Head f)) = ⊥
Traversed t row start edges at (Err (End f edge bit)) = ⊥
Traversed t row start edges at (Err Full) = ⊥

-- Vertices from a start on are spelled by all the codes that a number of edges has, up to a bit.
pub record AllSpelled (t : Table) (row : List Bool) (start : Point) (edges : ℕ) (vs : List Point) (bit : ℕ) : Type 0 where
  pub first : get_or vs 0 origin ≡ start
  pub count : length vs ≡ suc edges
  pub spelled : Spelled t row vs bit

-- What reading the start and the codes answers, and what it leaves in the list of points.
abbrev pub BodyRead : Table → List Bool → Point → ℕ → List Point → List Point → Result ℕ Fault → Type 0
BodyRead t row start edges before after (Ok n) = (vs : List Point) × (bit : ℕ) × AllSpelled t row start edges vs bit × Padding (drop bit row) × Inside start × (n ≡ suc edges) × (after ≡ vs ++ drop n before)
BodyRead t row start edges before after (Err (Head Column)) = (1024 ≤ start.col) × (after ≡ before)
BodyRead t row start edges before after (Err (Head Row)) = (start.col < 1024) × (1024 ≤ start.row) × (after ≡ before)
BodyRead t row start edges before after (Err (Head Short)) = ⊥
BodyRead t row start edges before after (Err (Head Kind)) = ⊥
BodyRead t row start edges before after (Err (Code fault edge bit)) = Stopped t row start edges fault edge bit × Inside start × (after ≡ before)
BodyRead t row start edges before after (Err (End Trailing edge bit)) = (edge ≡ edges) × ((vs : List Point) × AllSpelled t row start edges vs bit × (Padding (drop bit row) → ⊥) × Inside start × (after ≡ before))
BodyRead t row start edges before after (Err Full) = (vs : List Point) × (bit : ℕ) × AllSpelled t row start edges vs bit × Padding (drop bit row) × Inside start × (length before < suc edges) × (after ≡ before)

-- What reading the start and the codes of a record of a kind and a number of bytes answers, and what it leaves in the list of points.
abbrev pub RecordRead : Table → List Bool → ℕ → ℕ → Point → ℕ → List Point → List Point → Result Reading Fault → Type 0
RecordRead t row kind size start edges before after (Ok a) = (vs : List Point) × (bit : ℕ) × AllSpelled t row start edges vs bit × Padding (drop bit row) × Inside start × (a ≡ record { kind = kind; bytes = size; vertices = suc edges }) × (after ≡ vs ++ drop (suc edges) before)
RecordRead t row kind size start edges before after (Err (Head Column)) = (1024 ≤ start.col) × (after ≡ before)
RecordRead t row kind size start edges before after (Err (Head Row)) = (start.col < 1024) × (1024 ≤ start.row) × (after ≡ before)
RecordRead t row kind size start edges before after (Err (Head Short)) = ⊥
RecordRead t row kind size start edges before after (Err (Head Kind)) = ⊥
RecordRead t row kind size start edges before after (Err (Code fault edge bit)) = Stopped t row start edges fault edge bit × Inside start × (after ≡ before)
RecordRead t row kind size start edges before after (Err (End Trailing edge bit)) = (edge ≡ edges) × ((vs : List Point) × AllSpelled t row start edges vs bit × (Padding (drop bit row) → ⊥) × Inside start × (after ≡ before))
RecordRead t row kind size start edges before after (Err Full) = (vs : List Point) × (bit : ℕ) × AllSpelled t row start edges vs bit × Padding (drop bit row) × Inside start × (length before < suc edges) × (after ≡ before)
