-- The text of a command.
use Rattle.std.specs.Prelude.{ℕ, ◌^◌, ◌<◌, ◌≤◌, List, ◌++◌, codes, decimal}
use Rattle.measure.specs.declared.chosen.Chosen.TheVariants.{Line, Pace}
use Rattle.scripts.specs.declared.command.Command.{Command}
use Rattle.scripts.specs.declared.command.Command.TheVariants.{Kind, Measure, Rows, List as ListPlaces, Open, Extend, Retract, LeastPriced, LeastStraying, Cheapest, Finest, Closest}

-- The text of each command: its words, and its numbers in decimal, with one space between each two.
abbrev pub command_text : Command → List ℕ
command_text (Kind number) = codes "kind " ++ decimal number
command_text (Measure Line) = codes "measure line"
command_text (Measure Pace) = codes "measure pace"
command_text (Rows places) = codes "rows " ++ decimal places.count
command_text (ListPlaces places) = codes "list " ++ decimal places.count
command_text (Open width height col row) = codes "open " ++ (decimal width ++ (codes " " ++ (decimal height ++ (codes " " ++ (decimal col ++ (codes " " ++ decimal row))))))
command_text (Extend direction) = codes "extend " ++ decimal direction
command_text Retract = codes "retract"
command_text (LeastPriced top bottom) = codes "least priced " ++ (decimal top ++ (codes " " ++ decimal bottom))
command_text LeastStraying = codes "least straying"
command_text (Cheapest top bottom) = codes "cheapest " ++ (decimal top ++ (codes " " ++ decimal bottom))
command_text Finest = codes "finest"
command_text (Closest budget) = codes "closest " ++ decimal budget

-- The numbers of a command fit the call: 16 bits for open, closest and kind, 8 for extend, 64 for a tolerance, at most 256 places.
abbrev pub Fitting : Command → Type 0
Fitting (Kind number) = number < 2 ^ 16
Fitting (Measure chosen) = Unit {0}
Fitting (Rows places) = places.count ≤ 256
Fitting (ListPlaces places) = places.count ≤ 256
Fitting (Open width height col row) = (width < 2 ^ 16) × (height < 2 ^ 16) × (col < 2 ^ 16) × (row < 2 ^ 16)
Fitting (Extend direction) = direction < 2 ^ 8
Fitting Retract = Unit {0}
Fitting (LeastPriced top bottom) = (top < 2 ^ 64) × (bottom < 2 ^ 64)
Fitting LeastStraying = Unit {0}
Fitting (Cheapest top bottom) = (top < 2 ^ 64) × (bottom < 2 ^ 64)
Fitting Finest = Unit {0}
Fitting (Closest budget) = budget < 2 ^ 16
