-- The worked examples.
use Rattle.std.specs.Prelude.{ℕ, List, [], ◌∷◌, replicate, Err}
use Rattle.closest.specs.declared.goal.Goal.TheVariants.{Tolerance, Budget}
use Rattle.coding.specs.declared.kind.Kind.TheVariants.{Flat, Run, Axis}
use Rattle.measure.specs.Distances.{line, pace}
use Rattle.outline.specs.declared.refusal.Refusal.TheVariants.{NoUsable, OverBudget}
use Rattle.examples.specs.Answers.{polygon, Answers}
use Rattle.examples.specs.declared.Worked.{Worked}

-- Two steps right and two down.
abbrev pub corner : List ℕ
corner = 0 ∷ 0 ∷ 6 ∷ 6 ∷ []

-- Sixteen steps right.
abbrev pub straight : List ℕ
straight = replicate 16 0

-- Each worked example: what is asked, the directions, the kind of code, the measure, the answer, and where it is shown.
pub record Examples (w : Worked) : Type 0 where
  pub alone : Answers (Tolerance 0 1) [] Run line (polygon (0 ∷ []) 0 0 1) w.alone
  pub chord : Answers (Tolerance 2 1) corner Run line (polygon (0 ∷ 4 ∷ []) 6 16 8) w.chord
  pub legs : Answers (Tolerance 1 1) corner Run line (polygon (0 ∷ 2 ∷ 4 ∷ []) 12 0 1) w.legs
  pub flat : Answers (Tolerance 1 1) corner Flat line (polygon (0 ∷ 2 ∷ 4 ∷ []) 44 0 1) w.flat
  pub paced : Answers (Tolerance 2 1) corner Run pace (polygon (0 ∷ 4 ∷ []) 6 32 16) w.paced
  pub over : Answers (Budget 5) corner Run line (Err OverBudget) w.over
  pub near : Answers (Budget 11) corner Run line (polygon (0 ∷ 4 ∷ []) 6 16 8) w.near
  pub exact : Answers (Budget 12) corner Run line (polygon (0 ∷ 2 ∷ 4 ∷ []) 12 0 1) w.exact
  pub diagonal : Answers (Tolerance 0 1) (7 ∷ []) Axis line (Err NoUsable) w.diagonal
  pub back : Answers (Tolerance 1 1) (0 ∷ 4 ∷ []) Flat line (polygon (0 ∷ 2 ∷ []) 22 1 1) w.back
  pub long : Answers (Tolerance 0 1) straight Run line (polygon (0 ∷ 1 ∷ 16 ∷ []) 13 0 1) w.long
