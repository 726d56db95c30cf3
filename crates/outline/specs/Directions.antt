-- The numbers of the directions.
use Rattle.std.specs.Prelude.{◌≡◌, ℕ, ◌≤◌, Result, MatchResult}
use Rattle.outline.specs.declared.direction.Direction.{Direction}
use Rattle.outline.specs.declared.direction.Direction.TheVariants.{East, Northeast, North, Northwest, West, Southwest, South, Southeast}
use Rattle.outline.specs.declared.refusal.Refusal.{Refusal}
use Rattle.outline.specs.declared.refusal.Refusal.TheVariants.{Direction as NoDirection}

-- The number of a direction.
abbrev pub direction_number : Direction → ℕ
direction_number East = 0
direction_number Northeast = 1
direction_number North = 2
direction_number Northwest = 3
direction_number West = 4
direction_number Southwest = 5
direction_number South = 6
direction_number Southeast = 7

-- The direction of a number up to 7, and the refusal of a greater one.
abbrev pub Numbered : ℕ → Result Direction Refusal → Type 0
Numbered n r = MatchResult r (λ d. direction_number d ≡ n) (λ e. (8 ≤ n) × (e ≡ NoDirection))
