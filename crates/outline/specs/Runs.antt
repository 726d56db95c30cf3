-- The plain outline fed a list of calls.
use Rattle.std.specs.Prelude.{List, [], ◌∷◌, Result}
use Rattle.outline.specs.declared.call.Call.{Call}
use Rattle.outline.specs.declared.call.Call.TheVariants.{Open, Extend, Retract}
use Rattle.outline.specs.declared.refusal.Refusal.{Refusal}
use Rattle.outline.specs.Plain.{Plain, opened, extended, retracted, answer, left_by}

-- What one call makes of the plain outline.
abbrev pub made : Plain → Call → Result Plain Refusal
made p (Open width height col row) = opened width height col row
made p (Extend direction) = extended p direction
made p Retract = retracted p

-- The plain outline after a list of calls.
abbrev pub after : Plain → List Call → Plain
after p [] = p
after p (c ∷ cs) = after (left_by p (made p c)) cs

-- The answers to a list of calls, in order.
abbrev pub answers : Plain → List Call → List (Result (Unit {0}) Refusal)
answers p [] = []
answers p (c ∷ cs) = answer (made p c) ∷ answers (left_by p (made p c)) cs
