-- What C is told, and what its memory holds after.
use Rattle.std.specs.Prelude.{◌≡◌, ℕ, Bool, cond, List, ℤ, pos, neg_ℤ, Ok, Err, Option, Result}
use Rattle.coding.specs.Tables.{Table}
use Rattle.measure.specs.Measures.{Strays}
use Rattle.measure.specs.declared.chosen.Chosen.{Chosen}
use Rattle.measure.specs.declared.chosen.Chosen.TheVariants.{Line, Pace}
use Rattle.outline.specs.Refusals.{number}
use Rattle.outline.specs.declared.point.Point.{Point}
use Rattle.records.specs.Faults.{refusal_of}
use Rattle.records.specs.Reading.{ReadRight, ReadExact, all_kinds}
use Rattle.records.specs.declared.fault.Fault.{Fault}
use Rattle.records.specs.declared.reading.Reading.{Reading}
use Rattle.records.specs.declared.written.Written.{Written}
use Rattle.exchange.specs.Encoding.{Encoded}
use Rattle.exchange.specs.Texts.{failure_refusal}
use Rattle.exchange.specs.declared.failure.Failure.{Failure}
use Rattle.closest.specs.declared.goal.Goal.{Goal}

-- The measure that is asked for: pace, or else line.
abbrev pub measure_by : Bool → Chosen
measure_by pace = cond pace Pace Line

-- The number of a record's fault.
abbrev pub fault_number : Fault → ℕ
fault_number f = number (refusal_of f)

-- The number of why nothing is answered.
abbrev pub failure_number : Failure → ℕ
failure_number f = number (failure_refusal f)

-- What C is told: 0 where a call is accepted, and minus the refusal's number where it is refused.
abbrev pub told : {X E : Type 0} → (E → ℕ) → Result X E → ℤ
told numbered (Ok x) = pos 0
told numbered (Err e) = neg_ℤ (pos (numbered e))

-- What the place for an answer holds after: the answer, or at a refusal what it held before.
abbrev pub placed : {X E : Type 0} → X → Result X E → X
placed before (Ok x) = x
placed before (Err e) = before

-- C is told what encoding a chain record answers, and has its sizes in their place.
abbrev pub EncodeTold : Option Table → ℕ → Strays → Goal → List ℕ → List ℕ → List ℕ → Written → Written → ℤ → Type 0
EncodeTold codes kind strays goal bs before after was is answer =
    (r : Result Written Failure) × Encoded codes kind strays goal bs before after r × (answer ≡ told failure_number r) × (is ≡ placed was r)

-- C is told what reading a record of any kind answers, and has it in its place.
abbrev pub ReadTold : List ℕ → List Point → List Point → Reading → Reading → ℤ → Type 0
ReadTold bs before after was is answer =
    (r : Result Reading Fault) × ReadRight all_kinds bs before after r × ReadExact all_kinds bs before after r × (answer ≡ told fault_number r) × (is ≡ placed was r)
