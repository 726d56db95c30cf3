-- A command's text in two parts: the word that it begins with, and what follows.
use Rattle.std.specs.Prelude.{◌≡◌, ℕ, List, [], codes, decimal}
use Rattle.measure.specs.declared.chosen.Chosen.TheVariants.{Line, Pace}
use Rattle.scripts.specs.Commands.{Fitting}
use Rattle.scripts.specs.Numbers.{spaced, four_text}
use Rattle.scripts.specs.declared.command.Command.{Command}
use Rattle.scripts.specs.declared.command.Command.TheVariants.{Kind, Measure, Rows, List as ListPlaces, Open, Extend, Retract, LeastPriced, LeastStraying, Cheapest, Finest, Closest}
use Rattle.scripts.specs.declared.word.Word.{Word}
use Rattle.scripts.specs.declared.word.Word.TheVariants.{Kind as kind_word, MeasureLine, MeasurePace, Rows as rows_word, List as list_word, Open as open_word, Extend as extend_word, Retract as retract_word, LeastPriced as priced_word, LeastStraying as straying_word, Cheapest as cheapest_word, Finest as finest_word, Closest as closest_word}

-- The text of a word, with the space before the first number.
abbrev pub word_text : Word → List ℕ
word_text kind_word = codes "kind "
word_text MeasureLine = codes "measure line"
word_text MeasurePace = codes "measure pace"
word_text rows_word = codes "rows "
word_text list_word = codes "list "
word_text open_word = codes "open "
word_text extend_word = codes "extend "
word_text retract_word = codes "retract"
word_text priced_word = codes "least priced "
word_text straying_word = codes "least straying"
word_text cheapest_word = codes "cheapest "
word_text finest_word = codes "finest"
word_text closest_word = codes "closest "

-- The word that a command's text begins with.
abbrev pub word_of : Command → Word
word_of (Kind number) = kind_word
word_of (Measure Line) = MeasureLine
word_of (Measure Pace) = MeasurePace
word_of (Rows places) = rows_word
word_of (ListPlaces places) = list_word
word_of (Open width height col row) = open_word
word_of (Extend direction) = extend_word
word_of Retract = retract_word
word_of (LeastPriced top bottom) = priced_word
word_of LeastStraying = straying_word
word_of (Cheapest top bottom) = cheapest_word
word_of Finest = finest_word
word_of (Closest budget) = closest_word

-- The text of a command after its word.
abbrev pub arguments : Command → List ℕ
arguments (Kind number) = decimal number
arguments (Measure chosen) = []
arguments (Rows places) = decimal places.count
arguments (ListPlaces places) = decimal places.count
arguments (Open width height col row) = four_text (width, height, col, row)
arguments (Extend direction) = decimal direction
arguments Retract = []
arguments (LeastPriced top bottom) = spaced top (decimal bottom)
arguments LeastStraying = []
arguments (Cheapest top bottom) = spaced top (decimal bottom)
arguments Finest = []
arguments (Closest budget) = decimal budget

-- A command whose numbers fit begins with this word.
abbrev pub Begun : Word → Command → Type 0
Begun w c = Fitting c × (word_of c ≡ w)
