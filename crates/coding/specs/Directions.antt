-- Displacements along one of the eight directions.
use Rattle.std.specs.Prelude.{◌≡◌, ℕ, ◌<◌, ◌≤◌, max, Bool, cond, ◌&&◌, ◌↔◌, List, [], ◌∷◌, ℤ, pos, ◌*ℤ◌, Some, None, Option, int_le, nat_lt, unsigned_abs}
use Rattle.outline.specs.declared.direction.Direction.{Direction}
use Rattle.outline.specs.Directions.{direction_number}
use Rattle.outline.specs.Moves.{move}
use Rattle.std.specs.Option.{option_map}

-- A length times the move of a direction.
abbrev pub taken : ℕ → ℕ → ℤ × ℤ
taken d l = (pos l *ℤ (move d).0, pos l *ℤ (move d).1)

-- A displacement is a length of 1 or more times the move of a direction.
abbrev pub Along : ℤ → ℤ → ℕ → ℕ → Type 0
Along x y d l = (d < 8) × (1 ≤ l) × (x ≡ (taken d l).0) × (y ≡ (taken d l).1)

-- An answer names a direction and a length exactly when the displacement is that length times the move of that direction.
abbrev pub Leads : ℤ → ℤ → Option (ℕ × ℕ) → Type 0
Leads x y r = (d l : ℕ) → Along x y d l ↔ (r ≡ Some (d, l))

-- Whether two whole numbers are equal.
abbrev pub same : ℤ → ℤ → Bool
same a b = int_le a b && int_le b a

-- The first number of a list that passes a test, or none.
abbrev pub first : (ℕ → Bool) → List ℕ → Option ℕ
first p [] = None
first p (d ∷ ds) = cond (p d) (Some d) (first p ds)

-- The first direction whose move taken l times is a displacement.
abbrev pub heading : ℤ → ℤ → ℕ → Option ℕ
heading x y l = first (λ d. same x (taken d l).0 && same y (taken d l).1) (0 ∷ 1 ∷ 2 ∷ 3 ∷ 4 ∷ 5 ∷ 6 ∷ 7 ∷ [])

-- The direction and the length of a displacement that is a length of 1 or more times the move of a direction, or none.
abbrev pub along : ℤ → ℤ → Option (ℕ × ℕ)
along x y = let l = max (unsigned_abs x) (unsigned_abs y) in cond (nat_lt 0 l) (option_map (λ d. (d, l)) (heading x y l)) None

-- An answer of a direction and a length, with the number of the direction.
abbrev pub numbered : Option (Direction × ℕ) → Option (ℕ × ℕ)
numbered r = option_map (λ p. (direction_number p.0, p.1)) r
