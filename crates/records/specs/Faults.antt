-- The number of each fault of a record.
use Rattle.std.specs.Prelude.{ℕ}
use Rattle.outline.specs.declared.refusal.Refusal.{Refusal}
use Rattle.outline.specs.declared.refusal.Refusal.TheVariants.{Short as TooShort, Kind as WrongKind, PointOutside, NoCode as Uncoded, Trailing as Extra, ListShort}
use Rattle.records.specs.declared.fault.BitFault.TheVariants.{Trailing}
use Rattle.records.specs.declared.fault.CoderFault.TheVariants.{NoCode, Outside}
use Rattle.records.specs.declared.fault.Fault.{Fault}
use Rattle.records.specs.declared.fault.Fault.TheVariants.{Head, Code, End, List}
use Rattle.records.specs.declared.fault.HeadFault.{HeadFault}
use Rattle.records.specs.declared.fault.HeadFault.TheVariants.{Short, Kind, Column, Row}

-- The refusal that a fault of a record is.
abbrev pub refusal_of : Fault → Refusal
refusal_of (Head Short) = TooShort
refusal_of (Head Kind) = WrongKind
refusal_of (Head Column) = PointOutside
refusal_of (Head Row) = PointOutside
refusal_of (Code NoCode edge bit) = Uncoded
refusal_of (Code Outside edge bit) = PointOutside
refusal_of (End Trailing edge bit) = Extra
refusal_of List = ListShort

-- The byte at which a fault of the head is told.
abbrev pub byte_of : HeadFault → ℕ
byte_of Short = 0
byte_of Kind = 2
byte_of Column = 4
byte_of Row = 6
