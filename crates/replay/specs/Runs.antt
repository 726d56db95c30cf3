-- A run of calls.
use Rattle.std.specs.Prelude.{◌≡◌, ℕ, ◌-◌, List, [], ◌∷◌, ◌++◌, length, take, replicate}
use Rattle.outline.specs.Rules.{Rules}
use Rattle.replay.specs.Right.{Tools, State, Right}
use Rattle.replay.specs.declared.answer.Answer.{Answer}
use Rattle.replay.specs.declared.call.Call.{Call}
use Rattle.replay.specs.declared.entry.Entry.{Entry}

-- The first 256 places of a list, with zeros where it is shorter.
abbrev pub front : List ℕ → List ℕ
front list = take 256 list ++ replicate (256 - length list) 0

-- The entry of an answer and a list.
abbrev pub noted : {C : Type 0} → Answer C → List ℕ → Entry C
noted a list = record { answer = a; list = front list }

-- The lent rows and the lent list keep their lengths.
pub record SameLengths {C : Type 0} (s u : State C) : Type 0 where
  pub rows : length u.rows ≡ length s.rows
  pub priced : length u.priced ≡ length s.priced
  pub straying : length u.straying ≡ length s.straying
  pub list : length u.list ≡ length s.list

-- A run: each call is made in the state that the one before leaves, with an outline that keeps the rules, and is noted with a right answer and the list that it leaves.
pub data Run {C W : Type 0} (t : Tools C W) : State C → List Call → List (Entry C) → State C → Type 0 where
  done : {s : State C} → Rules s.outline → Run t s [] [] s
  step : {s u v : State C} {c : Call} {a : Answer C} {cs : List Call} {es : List (Entry C)} → Rules s.outline → Right t s c a u → SameLengths s u → Run t u cs es v → Run t s (c ∷ cs) (noted a u.list ∷ es) v
