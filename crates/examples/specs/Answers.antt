-- What the rules answer for an outline, in plain numbers.
use Rattle.std.specs.Prelude.{◌≡◌, ℕ, ◌≤◌, List, ◌∷◌, map, length, take, Ok, Err, Result}
use Rattle.closest.specs.Goals.{RuleFor}
use Rattle.closest.specs.declared.goal.Goal.{Goal}
use Rattle.coding.specs.Kinds.{kind_table}
use Rattle.coding.specs.Tables.{Table}
use Rattle.coding.specs.declared.kind.Kind.{Kind}
use Rattle.cost.specs.declared.bits.Bits.{Bits}
use Rattle.cost.specs.declared.two_part.TwoPart.{TwoPart}
use Rattle.graph.specs.declared.Row.{Row}
use Rattle.measure.specs.Measures.{Strays}
use Rattle.outline.specs.Plain.{new_plain}
use Rattle.outline.specs.Runs.{after}
use Rattle.outline.specs.declared.call.Call.TheVariants.{Open, Extend}
use Rattle.outline.specs.declared.point.Point.{Point}
use Rattle.outline.specs.declared.refusal.Refusal.{Refusal}
use Rattle.search.specs.declared.by_price.PricedPolygon.{PricedPolygon}
use Rattle.weighing.specs.declared.deviation.Deviation.{Deviation}
use Rattle.examples.specs.declared.asking.Shown.{Shown}

-- The points of an outline that starts at column 5 of row 5 of a 32 by 32 frame and goes by these directions.
abbrev pub traced : List ℕ → List Point
traced directions = (after new_plain (Open 32 32 5 5 ∷ map Extend directions)).points

-- An answer in numbers: how many vertices, which they are, the bits, the deviation's top and bottom; or a refusal.
abbrev pub Numbers : Type 0
Numbers = Result (ℕ × List ℕ × ℕ × ℕ × ℕ) Refusal

-- The numbers of an answer and of the list that begins with its vertices.
abbrev pub numbers : List ℕ → Result PricedPolygon Refusal → Numbers
numbers list (Ok a) = Ok (a.vertices, take a.vertices list, a.bits, a.deviation.top, a.deviation.bottom)
numbers list (Err e) = Err e

-- The polygon of these vertices, with its bits and its deviation.
abbrev pub polygon : List ℕ → ℕ → ℕ → ℕ → Numbers
polygon vertices bits top bottom = Ok (length vertices, vertices, bits, top, bottom)

-- What cheapest or closest makes of rows and a list, before and after, and of its answer.
abbrev pub Rule : Type 1
Rule = List (Row (TwoPart Bits Deviation)) → List (Row (TwoPart Bits Deviation)) → List ℕ → List ℕ → Result PricedPolygon Refusal → Type 0

-- With a row and a list place for each of n points, and as many rows after as before, every answer by the rule has these numbers.
abbrev pub Always : ℕ → Rule → Numbers → Type 0
Always n rule answer =
    (rows rows_after : List (Row (TwoPart Bits Deviation))) (list list_after : List ℕ) (r : Result PricedPolygon Refusal) →
    n ≤ length rows → length rows_after ≡ length rows → n ≤ length list → rule rows rows_after list list_after r → numbers list_after r ≡ answer

-- For the outline of these directions, what is asked by a kind of code and a measure is always answered so.
abbrev pub Fact : Goal → List ℕ → Kind → Strays → Numbers → Type 0
Fact goal directions kind strays answer = Always (length (traced directions)) (RuleFor goal (kind_table kind) strays (traced directions)) answer

-- It is always answered so, and so it is shown.
abbrev pub Answers : Goal → List ℕ → Kind → Strays → Numbers → Shown → Type 0
Answers goal directions kind strays answer s = Fact goal directions kind strays answer × (numbers s.list s.answer ≡ answer)
