-- What the words of a call of encode ask.
use Rattle.std.specs.Prelude.{ℕ, ◌+◌, ◌-◌, ◌*◌, ◌^◌, min, cond, ◌&&◌, List, [], ◌∷◌, length, Some, None, codes, Option, nat_lt}
use Rattle.std.specs.Option.{option_map, option_zip}
use Rattle.std.specs.Str.{all_ascii_digits, bytes_eq}
use Rattle.measure.specs.declared.chosen.Chosen.{Chosen}
use Rattle.measure.specs.declared.chosen.Chosen.TheVariants.{Line, Pace}
use Rattle.closest.specs.declared.goal.Goal.{Goal}
use Rattle.closest.specs.declared.goal.Goal.TheVariants.{Tolerance, Budget}
use Rattle.exchange.specs.declared.order.Order.{Order}

-- The number that decimal digits write after those of another.
abbrev pub number_from : ℕ → List ℕ → ℕ
number_from n [] = n
number_from n (c ∷ cs) = number_from (10 * n + (c - 48)) cs

-- The number that a word of decimal digits writes, or the limit where it is past that; none where the word is no such word.
abbrev pub number_in : ℕ → List ℕ → Option ℕ
number_in limit word = cond (nat_lt 0 (length word) && all_ascii_digits word) (Some (min (number_from 0 word) limit)) None

-- The measure that a word names.
abbrev pub measure_in : List ℕ → Option Chosen
measure_in word = cond (bytes_eq word (codes "line")) (Some Line) (cond (bytes_eq word (codes "pace")) (Some Pace) None)

-- A tolerance, from the words of its top and its bottom.
abbrev pub tolerance_in : List ℕ → List ℕ → Option Goal
tolerance_in top bottom = option_map (λ t. Tolerance t.0 t.1) (option_zip (number_in (2 ^ 64 - 1) top) (number_in (2 ^ 64 - 1) bottom))

-- A budget of bits, from its word.
abbrev pub budget_in : List ℕ → Option Goal
budget_in bits = option_map (λ n. Budget n) (number_in (2 ^ 16 - 1) bits)

-- An order, where there are all its parts.
abbrev pub ordered : Option ℕ → Option Chosen → Option Goal → Option Order
ordered None measure goal = None
ordered (Some k) None goal = None
ordered (Some k) (Some m) None = None
ordered (Some k) (Some m) (Some g) = Some (record { kind = k; measure = m; goal = g })

-- The order of a kind's word, a measure's word and a goal.
abbrev pub order_in : List ℕ → List ℕ → Option Goal → Option Order
order_in kind measure goal = ordered (number_in (2 ^ 16 - 1) kind) (measure_in measure) goal
