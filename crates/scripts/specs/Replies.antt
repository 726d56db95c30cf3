-- The reply that tells an answer.
use Rattle.std.specs.Prelude.{ℕ, List, ◌++◌, Some, None, Ok, Err, codes, decimal, Option, Result}
use Rattle.cost.specs.declared.bits.Bits.{Bits}
use Rattle.cost.specs.declared.two_part.TwoPart.{TwoPart}
use Rattle.outline.specs.Refusals.{number}
use Rattle.outline.specs.declared.refusal.Refusal.{Refusal as Reason}
use Rattle.replay.specs.Runs.{front}
use Rattle.replay.specs.declared.answer.Answer.{Answer}
use Rattle.replay.specs.declared.answer.Answer.TheVariants.{Traced, Least, Cheapest, Finest, Closest}
use Rattle.search.specs.declared.Found.{Found}
use Rattle.search.specs.declared.by_price.PricedPolygon.{PricedPolygon}
use Rattle.search.specs.declared.by_straying.StrayingPolygon.{StrayingPolygon}
use Rattle.weighing.specs.declared.deviation.Deviation.{Deviation}
use Rattle.scripts.specs.declared.reply.Reply.{Reply}
use Rattle.scripts.specs.declared.reply.Reply.TheVariants.{Accepted, Refused, Priced, Straying, NoCall}
use Rattle.scripts.specs.declared.reply.Vertices.{Vertices}

-- A refusal is told by its number.
abbrev pub told_refusal : Reason → Reply
told_refusal e = Refused (number e)

-- What is replied to an accepted call, or else its refusal.
abbrev pub replied : Result Reply Reason → Reply
replied (Ok r) = r
replied (Err e) = told_refusal e

-- Open, extend and retract are accepted or refused.
abbrev pub settled : Result (Unit {0}) Reason → Reply
settled (Ok u) = Accepted
settled (Err e) = told_refusal e

-- So many vertices at the front of a list.
abbrev pub vertices_of : List ℕ → ℕ → Vertices
vertices_of list n = record { list = front list; count = n }

-- What least with the priced weigher found.
abbrev pub told_priced : List ℕ → ℕ → TwoPart Bits Deviation → Reply
told_priced list n cost = Priced (vertices_of list n) cost.first.count cost.second.value

-- What least with the straying weigher found.
abbrev pub told_straying : List ℕ → ℕ → Deviation → Reply
told_straying list n cost = Straying (vertices_of list n) cost.value

-- The reply to least, by how its cost is told.
abbrev pub found_reply : {C : Type 0} → (List ℕ → ℕ → C → Reply) → List ℕ → Result (Found C) Reason → Reply
found_reply tell list (Ok found) = tell list found.vertices found.cost
found_reply tell list (Err e) = told_refusal e

-- The reply to cheapest and closest.
abbrev pub priced_reply : List ℕ → Result PricedPolygon Reason → Reply
priced_reply list (Ok p) = Priced (vertices_of list p.vertices) p.bits p.deviation
priced_reply list (Err e) = told_refusal e

-- The reply to finest.
abbrev pub straying_reply : List ℕ → Result StrayingPolygon Reason → Reply
straying_reply list (Ok p) = Straying (vertices_of list p.vertices) p.deviation
straying_reply list (Err e) = told_refusal e

-- The reply that tells an answer, with the list that the call left.
abbrev pub reply_of : {C : Type 0} → (List ℕ → ℕ → C → Reply) → List ℕ → Answer C → Reply
reply_of tell list (Traced r) = settled r
reply_of tell list (Least r) = found_reply tell list r
reply_of tell list (Cheapest r) = priced_reply list r
reply_of tell list (Finest r) = straying_reply list r
reply_of tell list (Closest r) = priced_reply list r

-- The text of a reply, but for those that tell a polygon.
abbrev pub reply_text : Reply → Option (List ℕ)
reply_text Accepted = Some (codes "accepted")
reply_text (Refused number) = Some (codes "refused " ++ decimal number)
reply_text (Priced vertices bits deviation) = None
reply_text (Straying vertices deviation) = None
reply_text (NoCall line) = Some (codes "line " ++ (decimal line ++ codes " is no call"))
