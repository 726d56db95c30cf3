-- Words of the inner functions' contracts: no public one cites them.
use Rattle.std.specs.Prelude.{◌≡◌, ℕ}
use Rattle.examples.specs.Answers.{Numbers, numbers, Rule, Always}
use Rattle.examples.specs.declared.asking.Shown.{Shown}

-- What is shown has the numbers that every answer by the rule has.
abbrev pub Handed : ℕ → Rule → Shown → Type 0
Handed n rule s = (answer : Numbers) → Always n rule answer → numbers s.list s.answer ≡ answer
