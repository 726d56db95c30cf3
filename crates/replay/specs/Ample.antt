-- Runs with a row of each kind and a list place for each of 256 points, in the words of polygons alone.
use Rattle.std.specs.Prelude.{◌≡◌, ℕ, ◌≤◌, List, [], ◌∷◌, length, Result}
use Rattle.closest.specs.Closest.{ClosestBest}
use Rattle.measure.specs.Fractions.{fraction}
use Rattle.outline.specs.Plain.{Plain, opened, extended, retracted, answer}
use Rattle.outline.specs.Runs.{after}
use Rattle.outline.specs.declared.refusal.Refusal.{Refusal}
use Rattle.replay.specs.Right.{Tools, State}
use Rattle.replay.specs.Traced.{traced_call}
use Rattle.replay.specs.declared.answer.Answer.{Answer}
use Rattle.replay.specs.declared.answer.Answer.TheVariants.{Traced, Least as least_said, Cheapest as cheapest_said, Finest as finest_said, Closest as closest_said}
use Rattle.replay.specs.declared.call.Call.{Call}
use Rattle.replay.specs.declared.call.Call.TheVariants.{Open, Extend, Retract, Least, Cheapest, Finest, Closest}
use Rattle.replay.specs.declared.entry.Entry.{Entry}
use Rattle.search.specs.Best.{BestAnswered}
use Rattle.search.specs.Cheapest.{CheapestBest, finest_found, OwnDeviation}
use Rattle.search.specs.declared.Found.{Found}
use Rattle.search.specs.declared.by_price.PricedPolygon.{PricedPolygon}
use Rattle.search.specs.declared.by_straying.StrayingPolygon.{StrayingPolygon}
use Rattle.weighing.specs.Deviations.{deviation_cost}
use Rattle.weighing.specs.Weighers.{straying_weight}

-- There are 256 rows of each kind, and 256 list places.
pub record Ample {C : Type 0} (s : State C) : Type 0 where
  pub rows : 256 ≤ length s.rows
  pub priced : 256 ≤ length s.priced
  pub straying : 256 ≤ length s.straying
  pub list : 256 ≤ length s.list

-- The best answer to a call on a plain outline, with the list that begins with its polygon.
abbrev pub BestSaid : {C W : Type 0} → Tools C W → Plain → Call → Answer C → List ℕ → Type 0
BestSaid t p (Open width height col row) a list = a ≡ Traced (answer (opened width height col row))
BestSaid t p (Extend direction) a list = a ≡ Traced (answer (extended p direction))
BestSaid t p Retract a list = a ≡ Traced (answer (retracted p))
BestSaid {C} t p Least a list =
    (r : Result (Found C) Refusal) × (a ≡ least_said r) × BestAnswered t.cost (t.weight p.points) (length p.points) list r
BestSaid t p (Cheapest top bottom) a list =
    (r : Result PricedPolygon Refusal) × (a ≡ cheapest_said r) × CheapestBest t.codes t.strays (fraction top bottom) p.points list r
BestSaid t p Finest a list =
    (r : Result StrayingPolygon Refusal) × (a ≡ finest_said r)
    × BestAnswered deviation_cost (straying_weight t.codes t.strays p.points) (length p.points) list (finest_found r)
    × OwnDeviation t.strays p.points list r
BestSaid t p (Closest budget) a list =
    (r : Result PricedPolygon Refusal) × (a ≡ closest_said r) × ClosestBest t.codes t.strays budget p.points list r

-- A best run: each call finds the plain outline after the calls before it, and its entry has a best answer and its polygon.
pub data BestRun {C W : Type 0} (t : Tools C W) : Plain → List Call → List (Entry C) → Type 0 where
  done : {p : Plain} → BestRun t p [] []
  step : {p : Plain} {c : Call} {e : Entry C} {cs : List Call} {es : List (Entry C)} → BestSaid t p c e.answer e.list → BestRun t (after p (traced_call c [])) cs es → BestRun t p (c ∷ cs) (e ∷ es)
