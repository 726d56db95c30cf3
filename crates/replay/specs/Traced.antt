-- Open, extend and retract among the calls of a run, and their answers among its entries.
use Rattle.std.specs.Prelude.{◌≡◌, List, [], ◌∷◌, Result}
use Rattle.outline.specs.Plain.{Plain}
use Rattle.outline.specs.Runs.{after, answers}
use Rattle.outline.specs.declared.call.Call.{Call as Trace}
use Rattle.outline.specs.declared.call.Call.TheVariants.{Open as open_call, Extend as extend_call, Retract as retract_call}
use Rattle.outline.specs.declared.refusal.Refusal.{Refusal}
use Rattle.replay.specs.declared.answer.Answer.{Answer}
use Rattle.replay.specs.declared.answer.Answer.TheVariants.{Traced, Least as least_said, Cheapest as cheapest_said, Finest as finest_said, Closest as closest_said}
use Rattle.replay.specs.declared.call.Call.{Call}
use Rattle.replay.specs.declared.call.Call.TheVariants.{Open, Extend, Retract, Least, Cheapest, Finest, Closest}
use Rattle.replay.specs.declared.entry.Entry.{Entry}

-- A call before others, if it is open, extend or retract.
abbrev pub traced_call : Call → List Trace → List Trace
traced_call (Open width height col row) cs = open_call width height col row ∷ cs
traced_call (Extend direction) cs = extend_call direction ∷ cs
traced_call Retract cs = retract_call ∷ cs
traced_call Least cs = cs
traced_call (Cheapest top bottom) cs = cs
traced_call Finest cs = cs
traced_call (Closest budget) cs = cs

-- The calls of open, extend and retract, in order.
abbrev pub traced_calls : List Call → List Trace
traced_calls [] = []
traced_calls (c ∷ cs) = traced_call c (traced_calls cs)

-- An answer before others, if it is of open, extend or retract.
abbrev pub traced_answer : {C : Type 0} → Answer C → List (Result (Unit {0}) Refusal) → List (Result (Unit {0}) Refusal)
traced_answer (Traced r) rs = r ∷ rs
traced_answer (least_said r) rs = rs
traced_answer (cheapest_said r) rs = rs
traced_answer (finest_said r) rs = rs
traced_answer (closest_said r) rs = rs

-- The answers of open, extend and retract, in order.
abbrev pub traced_answers : {C : Type 0} → List (Entry C) → List (Result (Unit {0}) Refusal)
traced_answers [] = []
traced_answers (e ∷ es) = traced_answer e.answer (traced_answers es)

-- The outline and these answers are as if the searches had not been called.
pub record AsTraced {C : Type 0} (p : Plain) (cs : List Call) (es : List (Entry C)) (q : Plain) : Type 0 where
  pub outline : q ≡ after p (traced_calls cs)
  pub said : traced_answers es ≡ answers p (traced_calls cs)
