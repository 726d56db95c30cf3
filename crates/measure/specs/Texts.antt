-- How fractions and measures are written.
use Rattle.std.specs.Prelude.{◌≡◌, ℕ, ◌++◌, ◌≢◌, List, Result, MatchResult, codes, decimal}
use Rattle.measure.specs.declared.chosen.Chosen.{Chosen}
use Rattle.measure.specs.declared.chosen.Chosen.TheVariants.{Line, Pace}
use Rattle.measure.specs.declared.chosen.UnknownMeasure.{UnknownMeasure}
use Rattle.measure.specs.declared.fraction.Fraction.{Fraction}

-- A fraction is written as its top, a stroke and its bottom.
abbrev pub fraction_text : Fraction → List ℕ
fraction_text f = decimal f.top ++ (codes "/" ++ decimal f.bottom)

-- The name of a measure.
abbrev pub measure_name : Chosen → List ℕ
measure_name Line = codes "line"
measure_name Pace = codes "pace"

-- An answer is the measure that a text names, or a refusal of a text that names none.
abbrev pub Named : List ℕ → Result Chosen UnknownMeasure → Type 0
Named text r = MatchResult r (λ chosen. measure_name chosen ≡ text) (λ _. (chosen : Chosen) → measure_name chosen ≢ text)
