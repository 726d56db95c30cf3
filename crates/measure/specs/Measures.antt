-- What a measure is.
use Rattle.std.specs.Prelude.{◌≡◌, ℕ, ◌<◌, true, List, length, is_some, None, Option}
use Rattle.outline.specs.declared.point.Point.{Point}
use Rattle.outline.specs.Plain.{Plain}
use Rattle.outline.specs.Rules.{Rules}
use Rattle.measure.specs.declared.fraction.Fraction.{Fraction}

-- A function of the points and of three numbers i, k, j: how far point k strays from edge i, j.
abbrev pub Strays : Type 0
Strays = List Point → ℕ → ℕ → ℕ → Option Fraction

-- Point k lies between the ends of edge i, j of n points.
abbrev pub Between : ℕ → ℕ → ℕ → ℕ → Type 0
Between n i k j = (i < k) × (k < j) × (j < n)

-- Every point between the ends of an edge of an outline gets an answer.
abbrev pub Answers : Strays → Type 0
Answers f = (p : Plain) → Rules p → (i k j : ℕ) → Between (length p.points) i k j → is_some (f p.points i k j) ≡ true

-- Numbers in another order or past the end get none.
abbrev pub NoneElse : Strays → Type 0
NoneElse f = (ps : List Point) (i k j : ℕ) → (Between (length ps) i k j → ⊥) → f ps i k j ≡ None
