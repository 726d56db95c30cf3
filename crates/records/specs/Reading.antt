-- What bytes are read as: the record that they begin with, or the first fault with its place.
use Rattle.std.specs.Prelude.{◌≡◌, ℕ, suc, ◌+◌, ◌-◌, ◌*◌, ◌<◌, ◌≤◌, Bool, false, cond, List, [], ◌∷◌, ◌++◌, length, get_or, take, drop, replicate, ℤ, Some, None, Ok, Err, Option, Result, ◌==◌, ◌≢◌, slice_index, slice_index_or}
use Rattle.outline.specs.declared.point.Point.{Point}
use Rattle.outline.specs.Held.{origin}
use Rattle.outline.specs.Moves.{displaced}
use Rattle.coding.specs.Bits.{bits_of, Begins}
use Rattle.coding.specs.declared.kind.Kind.{Kind as KindOfCode}
use Rattle.coding.specs.declared.kind.Kind.TheVariants.{Flat, Run, Axis, Chain, RunFlat}
use Rattle.coding.specs.Kinds.{kind_number, kind_table}
use Rattle.coding.specs.Tables.{Table}
use Rattle.records.specs.declared.fault.HeadFault.TheVariants.{Short, Kind, Column, Row}
use Rattle.records.specs.declared.fault.CoderFault.{CoderFault}
use Rattle.records.specs.declared.fault.CoderFault.TheVariants.{NoCode, Outside}
use Rattle.records.specs.declared.fault.BitFault.TheVariants.{Trailing}
use Rattle.records.specs.declared.fault.Fault.{Fault}
use Rattle.records.specs.declared.fault.Fault.TheVariants.{Head, Code, End, List as Full}
use Rattle.records.specs.declared.reading.Reading.{Reading}
use Rattle.records.specs.Bytes.{codes_of, record_of}

-- The number in two bytes of a list, the low byte first.
abbrev pub word_at : List ℕ → ℕ → ℕ
word_at bs i = slice_index bs i + 256 * slice_index bs (i + 1)

-- The bytes hold a length of 7 or more and at least as many bytes after it.
abbrev pub Whole : List ℕ → Type 0
Whole bs = (2 ≤ length bs) × (7 ≤ word_at bs 0) × (2 + word_at bs 0 ≤ length bs)

-- The first vertex, as the head has it.
abbrev pub start_at : List ℕ → Point
start_at bs = record { col = word_at bs 4; row = word_at bs 6 }

-- The number of edges, as the head has it.
abbrev pub edges_at : List ℕ → ℕ
edges_at bs = slice_index bs 8

-- The bits after the head, to the end that the length says.
abbrev pub code_bits : List ℕ → List Bool
code_bits bs = bits_of (take (word_at bs 0 - 7) (drop 9 bs))

-- A point lies in columns and rows 0 to 1,023.
abbrev pub Inside : Point → Type 0
Inside p = (p.col < 1024) × (p.row < 1024)

-- Every point of a list lies inside.
abbrev pub AllInside : List Point → Type 0
AllInside vs = (k : ℕ) → k < length vs → Inside (slice_index_or vs k origin)

-- Fewer than eight bits, and none of them set.
abbrev pub Padding : List Bool → Type 0
Padding bits = (length bits < 8) × (bits ≡ replicate (length bits) false)

-- Which kinds a reader knows, each by its table of codes.
abbrev pub Kinds : Type 0
Kinds = ℕ → Option Table

-- One kind alone.
abbrev pub only : ℕ → Table → Kinds
only kind t k = cond (k == kind) (Some t) None

-- Some kinds of code, each by its number and its table.
abbrev pub numbered : List KindOfCode → Kinds
numbered [] k = None
numbered (kind ∷ kinds) k = cond (k == kind_number kind) (Some (kind_table kind)) (numbered kinds k)

-- The kinds 1 to 5.
abbrev pub all_kinds : Kinds
all_kinds = numbered (Flat ∷ Run ∷ Axis ∷ Chain ∷ RunFlat ∷ [])

-- The head is good: whole, of a known kind, with its start inside.
pub record GoodHead (known : Kinds) (bs : List ℕ) (t : Table) : Type 0 where
  pub whole : Whole bs
  pub kind : known (word_at bs 2) ≡ Some t
  pub start : Inside (start_at bs)

-- The codes of some vertices begin a row of bits and end at a bit; every vertex lies inside.
pub record Spelled (t : Table) (row : List Bool) (vs : List Point) (bit : ℕ) : Type 0 where
  pub codes : List Bool
  pub coded : codes_of t vs ≡ Some codes
  pub begins : Begins codes row
  pub ends : length codes ≡ bit
  pub inside : AllInside vs

-- No code of the table begins a row of bits.
abbrev pub Codeless : Table → List Bool → Type 0
Codeless t row = (x y : ℤ) (code : List Bool) → t x y ≡ Some code → Begins code row → ⊥

-- The code that begins a row of bits leads from a point to none inside.
pub record LeadsOutside (t : Table) (row : List Bool) (from : Point) : Type 0 where
  pub x : ℤ
  pub y : ℤ
  pub code : List Bool
  pub coded : t x y ≡ Some code
  pub begins : Begins code row
  pub none : displaced 1024 1024 from x y ≡ None

-- What is wrong with the code that is to begin a row of bits and lead on from a point.
abbrev pub WrongCode : Table → List Bool → Point → CoderFault → Type 0
WrongCode t row from NoCode = Codeless t row
WrongCode t row from Outside = LeadsOutside t row from

-- A record is read up to an edge: the vertices before it are spelled, from the start on, and its code begins at a bit.
pub record ReadTo (known : Kinds) (bs : List ℕ) (edge : ℕ) (bit : ℕ) : Type 0 where
  pub table : Table
  pub head : GoodHead known bs table
  pub vertices : List Point
  pub start : get_or vertices 0 origin ≡ start_at bs
  pub count : length vertices ≡ edge
  pub spelled : Spelled table (code_bits bs) vertices bit

-- The bytes begin with the record of a kind and some vertices, all inside, and it takes a number of bytes.
pub record Accepted (known : Kinds) (bs : List ℕ) (kind : ℕ) (vs : List Point) (taken : ℕ) : Type 0 where
  pub table : Table
  pub known_kind : known kind ≡ Some table
  pub bytes : List ℕ
  pub written : record_of table kind vs ≡ Some bytes
  pub begins : take (length bytes) bs ≡ bytes
  pub takes : length bytes ≡ taken
  pub inside : AllInside vs

-- Why bytes are refused, and where, given how many vertices the list has places for.
abbrev pub Refused : Kinds → List ℕ → ℕ → Fault → Type 0
Refused known bs places (Head Short) = Whole bs → ⊥
Refused known bs places (Head Kind) = Whole bs × (known (word_at bs 2) ≡ None)
Refused known bs places (Head Column) = Whole bs × (known (word_at bs 2) ≢ None) × (1024 ≤ word_at bs 4)
Refused known bs places (Head Row) = Whole bs × (known (word_at bs 2) ≢ None) × (word_at bs 4 < 1024) × (1024 ≤ word_at bs 6)
Refused known bs places (Code fault edge bit) = (edge ≤ edges_at bs) × ((r : ReadTo known bs edge bit) × WrongCode r.table (drop bit (code_bits bs)) (slice_index_or r.vertices (edge - 1) origin) fault)
Refused known bs places (End Trailing edge bit) = (edge ≡ edges_at bs) × (ReadTo known bs (suc edge) bit × (Padding (drop bit (code_bits bs)) → ⊥))
Refused known bs places Full = (kind : ℕ) × (vs : List Point) × (taken : ℕ) × Accepted known bs kind vs taken × (places < length vs)

-- What reading answers, and what it leaves in the list of points: filled from the front at acceptance, unchanged at a refusal.
abbrev pub ReadRight : Kinds → List ℕ → List Point → List Point → Result Reading Fault → Type 0
ReadRight known bs before after (Ok a) = (vs : List Point) × Accepted known bs a.kind vs a.bytes × (length vs ≡ a.vertices) × (after ≡ vs ++ drop (length vs) before)
ReadRight known bs before after (Err f) = Refused known bs (length before) f × (after ≡ before)

-- What reading answers to a record that is there: its kind, bytes and vertices, filled into a list with places for them, else that the list is short.
abbrev pub ReadExact : Kinds → List ℕ → List Point → List Point → Result Reading Fault → Type 0
ReadExact known bs before after r =
    (kind : ℕ) (vs : List Point) (taken : ℕ) → Accepted known bs kind vs taken
    → (length vs ≤ length before → (r ≡ Ok (record { kind = kind; bytes = taken; vertices = length vs })) × (after ≡ vs ++ drop (length vs) before))
    × (length before < length vs → r ≡ Err Full)
