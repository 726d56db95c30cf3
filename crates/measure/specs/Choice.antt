-- The measure that was chosen.
use Rattle.measure.specs.declared.chosen.Chosen.{Chosen}
use Rattle.measure.specs.declared.chosen.Chosen.TheVariants.{Line, Pace}
use Rattle.measure.specs.Distances.{line, pace}
use Rattle.measure.specs.Measures.{Strays}

-- The function of each choice.
abbrev pub chosen_strays : Chosen → Strays
chosen_strays Line = line
chosen_strays Pace = pace
