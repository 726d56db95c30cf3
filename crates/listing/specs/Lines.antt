-- What the lines of the listing say.
use Rattle.std.specs.Prelude.{ℕ, List, [], ◌∷◌, ◌++◌, Ok, Err, codes, decimal, Result}
use Rattle.coding.specs.Kinds.{kind_number}
use Rattle.coding.specs.declared.kind.Kind.{Kind}
use Rattle.coding.specs.declared.kind.Kind.TheVariants.{Flat, Run, Axis, Chain, RunFlat}
use Rattle.outline.specs.declared.refusal.Refusal.{Refusal}
use Rattle.records.specs.declared.fault.CoderFault.{CoderFault}
use Rattle.records.specs.declared.fault.CoderFault.TheVariants.{NoCode, Outside}
use Rattle.records.specs.declared.fault.Fault.{Fault}
use Rattle.records.specs.declared.fault.Fault.TheVariants.{Head, Code, End, List as Full}
use Rattle.records.specs.declared.fault.HeadFault.{HeadFault}
use Rattle.records.specs.declared.fault.HeadFault.TheVariants.{Short, Kind as KindUnknown, Column, Row}
use Rattle.search.specs.declared.by_price.PricedPolygon.{PricedPolygon}
use Rattle.listing.specs.declared.line.Numbers.{Numbers}

-- A line ends in a line feed.
abbrev pub ended : List ℕ → List ℕ
ended text = text ++ 10 ∷ []

-- The first line names the fields.
abbrev pub header_line : List ℕ
header_line = ended (codes "kind bits vertices top bottom")

-- A polygon's numbers, parted by spaces.
abbrev pub numbers_text : Numbers → List ℕ
numbers_text n = decimal n.kind ++ (codes " " ++ (decimal n.bits ++ (codes " " ++ (decimal n.vertices ++ (codes " " ++ (decimal n.top ++ (codes " " ++ decimal n.bottom)))))))

-- The line of a refused kind.
abbrev pub refused_line : Kind → List ℕ
refused_line Flat = ended (codes "1 refused 26")
refused_line Run = ended (codes "2 refused 26")
refused_line Axis = ended (codes "3 refused 26")
refused_line Chain = ended (codes "4 refused 26")
refused_line RunFlat = ended (codes "5 refused 26")

-- The line of a record that is refused for its head.
abbrev pub head_line : HeadFault → List ℕ
head_line Short = ended (codes "record refused 6")
head_line KindUnknown = ended (codes "record refused 7")
head_line Column = ended (codes "record refused 8")
head_line Row = ended (codes "record refused 8")

-- The line of a record that is refused for a code.
abbrev pub code_line : CoderFault → List ℕ
code_line NoCode = ended (codes "record refused 9")
code_line Outside = ended (codes "record refused 8")

-- The one line of a refused record.
abbrev pub record_line : Fault → List ℕ
record_line (Head f) = head_line f
record_line (Code f edge bit) = code_line f
record_line (End f edge bit) = ended (codes "record refused 10")
record_line Full = ended (codes "record refused 23")

-- The line of a kind: the polygon that cheapest answers, or that it is refused.
abbrev pub kind_line : Kind → Result PricedPolygon Refusal → Result Numbers Kind
kind_line k (Ok a) = Ok (record { kind = kind_number k; bits = a.bits; vertices = a.vertices; top = a.deviation.top; bottom = a.deviation.bottom })
kind_line k (Err e) = Err k
