use Rattle.std.proofs.Common.{◌≡◌, ◌-◌, ◌^◌, ◌≤◌, min, drop}
use Rattle.std.specs.Str.{all_ascii_digits}
use Rattle.exchange.specs.Words.{number_from}
use Rattle.exchange.proofs.words.long_number.Given as goal

abbrev pub invariant-loop-digit : goal.invariant-loop-digit
invariant-loop-digit l =
    (all_ascii_digits l.digits ≡ all_ascii_digits (drop l.digit-index l.digits))
    × (min (number_from 0 l.digits) (2 ^ 64 - 1) ≡ min (number_from l.number (drop l.digit-index l.digits)) (2 ^ 64 - 1))
    × (l.number ≤ 2 ^ 64 - 1)
