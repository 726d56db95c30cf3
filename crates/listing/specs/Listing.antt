-- What the listing of a chain record holds.
use Rattle.std.specs.Prelude.{◌≡◌, ℕ, List, [], ◌∷◌, Ok, Err, Result}
use Rattle.coding.specs.Kinds.{kind_table}
use Rattle.coding.specs.declared.kind.Kind.{Kind}
use Rattle.coding.specs.declared.kind.Kind.TheVariants.{Flat, Run, Axis, Chain, RunFlat}
use Rattle.measure.specs.Distances.{line}
use Rattle.measure.specs.Fractions.{fraction}
use Rattle.outline.specs.declared.point.Point.{Point}
use Rattle.outline.specs.declared.refusal.Refusal.{Refusal}
use Rattle.records.specs.Reading.{Accepted, Refused}
use Rattle.records.specs.declared.fault.Fault.{Fault}
use Rattle.search.specs.Cheapest.{CheapestBest}
use Rattle.search.specs.declared.by_price.PricedPolygon.{PricedPolygon}
use Rattle.tracing.specs.Tracing.{chain_only}
use Rattle.listing.specs.Lines.{kind_line}
use Rattle.listing.specs.declared.line.Numbers.{Numbers}

-- A kind's line tells the cheapest polygon of the points by the kind's codes, by line, within 2/1.
abbrev pub KindListed : List Point → Kind → Result Numbers Kind → Type 0
KindListed ps k l = (r : Result PricedPolygon Refusal) × (list : List ℕ) × CheapestBest (kind_table k) line (fraction 2 1) ps list r × (l ≡ kind_line k r)

-- There is a line for each kind.
pub record PointsListed (ps : List Point) (lines : List (Result Numbers Kind)) : Type 0 where
  pub flat : Result Numbers Kind
  pub run : Result Numbers Kind
  pub axis : Result Numbers Kind
  pub chain : Result Numbers Kind
  pub run_flat : Result Numbers Kind
  pub are : lines ≡ flat ∷ run ∷ axis ∷ chain ∷ run_flat ∷ []
  pub flat_listed : KindListed ps Flat flat
  pub run_listed : KindListed ps Run run
  pub axis_listed : KindListed ps Axis axis
  pub chain_listed : KindListed ps Chain chain
  pub run_flat_listed : KindListed ps RunFlat run_flat

-- A listing tells why the record is refused, or lists the points of the record that the bytes begin with.
abbrev pub Listed : List ℕ → Result (List (Result Numbers Kind)) Fault → Type 0
Listed bs (Err f) = Refused chain_only bs 256 f
Listed bs (Ok ls) = (ps : List Point) × (taken : ℕ) × Accepted chain_only bs 4 ps taken × PointsListed ps ls
