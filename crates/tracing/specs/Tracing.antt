-- The outline that a chain record traces.
use Rattle.std.specs.Prelude.{◌≡◌, ℕ, List, Ok, Err, Result}
use Rattle.outline.specs.declared.outline.Outline.{Outline}
use Rattle.outline.specs.declared.point.Point.{Point}
use Rattle.outline.specs.Plain.{Plain, plain}
use Rattle.coding.specs.Kinds.{by_direction, chain_code}
use Rattle.records.specs.declared.fault.Fault.{Fault}
use Rattle.records.specs.Reading.{Kinds, only, Accepted, Refused}

-- Points in a frame of 1,024 by 1,024 pels.
abbrev pub in_largest : List Point → Plain
in_largest ps = record { width = 1024; height = 1024; points = ps }

-- Chain records alone.
abbrev pub chain_only : Kinds
chain_only = only 4 (by_direction chain_code)

-- The outline of the chain record that bytes begin with, or why and where they are refused.
abbrev pub TracedRight : List ℕ → Result Outline Fault → Type 0
TracedRight bs (Ok o) = (vs : List Point) × (taken : ℕ) × Accepted chain_only bs 4 vs taken × (plain o ≡ in_largest vs)
TracedRight bs (Err f) = Refused chain_only bs 256 f
