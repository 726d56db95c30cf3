-- The fractions that a sample keeps.
use Rattle.std.proofs.Common.{◌≡◌, ℕ, min, ◌<◌, List, length, get_or, take, Some, None, Option, sym, ap, ◌∙◌, arith}
use Rattle.measure.specs.Fractions.{zero as nought}
use Rattle.measure.specs.declared.fraction.Fraction.{Fraction}
use Rattle.std.proofs.lemmas.List.{get_or-take, length-take}
use Rattle.std.specs.Option.{MatchOption, unwrap_or}
use Rattle.closest.specs.Gaps.{Among}
use Rattle.closest.specs.declared.sample.Sample.{Sample}

module _ (s : Sample) where
  -- one of those that count
  pub among_counted : (xs : List Fraction) (k : ℕ) (x : Fraction) → xs ≡ take (min s.seen 15) s.kept → k < length xs → get_or xs k nought ≡ x → Among s x
  among_counted xs k x e l is =
      let front : k < min s.seen 15 = omega (arith, ap length e, length-take (min s.seen 15) s.kept) in
      (k, omega arith, sym is ∙ ap (λ ys. get_or ys k nought) e ∙ get_or-take (min s.seen 15) s.kept k nought front)

  -- the one picked, or another where there is none to pick
  pub among_picked : (o : Option Fraction) (d : Fraction) (P : Type 0) (Q : Fraction → Type 0) → Among s d → MatchOption o P Q → ((x : Fraction) → Q x → Among s x) → Among s (unwrap_or o d)
  among_picked None d P Q a h f = a
  among_picked (Some x) d P Q a h f = f x h
