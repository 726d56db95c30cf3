-- When the answer to a call is right.
use Rattle.std.specs.Prelude.{◌≡◌, ℕ, ◌≤◌, List, length, Option, Result}
use Rattle.closest.specs.Closest.{ClosestRule, ClosestBest}
use Rattle.coding.specs.Tables.{Table}
use Rattle.cost.specs.Cost.{CostOf}
use Rattle.cost.specs.declared.bits.Bits.{Bits}
use Rattle.cost.specs.declared.two_part.TwoPart.{TwoPart}
use Rattle.graph.specs.declared.Row.{Row}
use Rattle.measure.specs.Fractions.{fraction}
use Rattle.measure.specs.Measures.{Strays}
use Rattle.outline.specs.Plain.{Plain, plain, opened, extended, retracted, answer, left_by}
use Rattle.outline.specs.declared.outline.Outline.{Outline}
use Rattle.outline.specs.declared.point.Point.{Point}
use Rattle.outline.specs.declared.refusal.Refusal.{Refusal}
use Rattle.replay.specs.declared.answer.Answer.{Answer}
use Rattle.replay.specs.declared.answer.Answer.TheVariants.{Traced, Least as least_said, Cheapest as cheapest_said, Finest as finest_said, Closest as closest_said}
use Rattle.replay.specs.declared.call.Call.{Call}
use Rattle.replay.specs.declared.call.Call.TheVariants.{Open, Extend, Retract, Least, Cheapest, Finest, Closest}
use Rattle.search.specs.Best.{BestAnswered}
use Rattle.search.specs.Cheapest.{CheapestRule, CheapestBest, finest_found, OwnDeviation}
use Rattle.search.specs.Rules.{Answered}
use Rattle.search.specs.declared.Found.{Found}
use Rattle.search.specs.declared.by_price.PricedPolygon.{PricedPolygon}
use Rattle.search.specs.declared.by_straying.StrayingPolygon.{StrayingPolygon}
use Rattle.weighing.specs.Deviations.{deviation_cost}
use Rattle.weighing.specs.Weighers.{straying_weight}
use Rattle.weighing.specs.declared.deviation.Deviation.{Deviation}

-- What a weigher with its cost, a coder and a measure stand for.
pub record Tools (C W : Type 0) : Type 0 where
  pub cost : CostOf C W
  pub weight : List Point → ℕ → ℕ → Option W
  pub codes : Table
  pub strays : Strays

-- The tools of a cost, a weight, codewords and a measure.
abbrev pub tools : {C W : Type 0} → CostOf C W → (List Point → ℕ → ℕ → Option W) → Table → Strays → Tools C W
tools k w codes s = record { cost = k; weight = w; codes = codes; strays = s }

-- The plain outline, and what the lent rows and the lent list hold.
pub record State (C : Type 0) : Type 0 where
  pub outline : Plain
  pub rows : List (Row C)
  pub priced : List (Row (TwoPart Bits Deviation))
  pub straying : List (Row Deviation)
  pub list : List ℕ

-- The state that an outline and lent memory stand for.
abbrev pub state : {C : Type 0} → Outline → List (Row C) → List (Row (TwoPart Bits Deviation)) → List (Row Deviation) → List ℕ → State C
state o rows priced straying list = record { outline = plain o; rows = rows; priced = priced; straying = straying; list = list }

-- There is a row and a list place for each point.
abbrev pub Room : {R : Type 0} → List Point → List R → List ℕ → Type 0
Room ps rows list = (length ps ≤ length rows) × (length ps ≤ length list)

-- Open, extend and retract answer and leave what they make of the plain outline, and touch no lent memory.
pub record TracedRight {C : Type 0} (s : State C) (made : Result Plain Refusal) (a : Answer C) (u : State C) : Type 0 where
  pub said : a ≡ Traced (answer made)
  pub outline : u.outline ≡ left_by s.outline made
  pub rows : u.rows ≡ s.rows
  pub priced : u.priced ≡ s.priced
  pub straying : u.straying ≡ s.straying
  pub list : u.list ≡ s.list

-- Least answers by the rules of its rows, and with room a best polygon; it leaves the outline and the other rows.
pub record LeastRight {C W : Type 0} (t : Tools C W) (s : State C) (r : Result (Found C) Refusal) (u : State C) : Type 0 where
  pub outline : u.outline ≡ s.outline
  pub priced : u.priced ≡ s.priced
  pub straying : u.straying ≡ s.straying
  pub rule : Answered t.cost (t.weight s.outline.points) (length s.outline.points) s.rows u.rows s.list u.list r
  pub best : Room s.outline.points s.rows s.list → BestAnswered t.cost (t.weight s.outline.points) (length s.outline.points) u.list r

-- Cheapest answers by the rules of its rows, and with room a cheapest polygon; it leaves the outline and the other rows.
pub record CheapestRight {C W : Type 0} (t : Tools C W) (s : State C) (top bottom : ℕ) (r : Result PricedPolygon Refusal) (u : State C) : Type 0 where
  pub outline : u.outline ≡ s.outline
  pub rows : u.rows ≡ s.rows
  pub straying : u.straying ≡ s.straying
  pub rule : CheapestRule t.codes t.strays (fraction top bottom) s.outline.points s.priced u.priced s.list u.list r
  pub best : Room s.outline.points s.priced s.list → CheapestBest t.codes t.strays (fraction top bottom) s.outline.points u.list r

-- Finest answers by the rules of its rows, and with room a finest polygon with its own deviation; it leaves the outline and the other rows.
pub record FinestRight {C W : Type 0} (t : Tools C W) (s : State C) (r : Result StrayingPolygon Refusal) (u : State C) : Type 0 where
  pub outline : u.outline ≡ s.outline
  pub rows : u.rows ≡ s.rows
  pub priced : u.priced ≡ s.priced
  pub rule : Answered deviation_cost (straying_weight t.codes t.strays s.outline.points) (length s.outline.points) s.straying u.straying s.list u.list (finest_found r)
  pub best : Room s.outline.points s.straying s.list → BestAnswered deviation_cost (straying_weight t.codes t.strays s.outline.points) (length s.outline.points) u.list (finest_found r) × OwnDeviation t.strays s.outline.points u.list r

-- Closest answers by its rules, and with room a closest polygon of those that fit the budget; it leaves the outline and the other rows.
pub record ClosestRight {C W : Type 0} (t : Tools C W) (s : State C) (budget : ℕ) (r : Result PricedPolygon Refusal) (u : State C) : Type 0 where
  pub outline : u.outline ≡ s.outline
  pub rows : u.rows ≡ s.rows
  pub straying : u.straying ≡ s.straying
  pub rule : ClosestRule t.codes t.strays budget s.outline.points s.priced u.priced s.list u.list r
  pub best : Room s.outline.points s.priced s.list → ClosestBest t.codes t.strays budget s.outline.points u.list r

-- An answer is right for the state that its call was made in and the state that it leaves.
abbrev pub Right : {C W : Type 0} → Tools C W → State C → Call → Answer C → State C → Type 0
Right t s (Open width height col row) a u = TracedRight s (opened width height col row) a u
Right t s (Extend direction) a u = TracedRight s (extended s.outline direction) a u
Right t s Retract a u = TracedRight s (retracted s.outline) a u
Right {C} t s Least a u = (r : Result (Found C) Refusal) × (a ≡ least_said r) × LeastRight t s r u
Right t s (Cheapest top bottom) a u = (r : Result PricedPolygon Refusal) × (a ≡ cheapest_said r) × CheapestRight t s top bottom r u
Right t s Finest a u = (r : Result StrayingPolygon Refusal) × (a ≡ finest_said r) × FinestRight t s r u
Right t s (Closest budget) a u = (r : Result PricedPolygon Refusal) × (a ≡ closest_said r) × ClosestRight t s budget r u
