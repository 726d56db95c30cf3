-- The eight directions and where a point goes by one.
use Rattle.std.specs.Prelude.{ℕ, cond, List, [], ◌∷◌, ℤ, pos, negsuc, ◌+ℤ◌, Some, None, Option, nat_lt, slice_index_or}
use Rattle.outline.specs.declared.point.Point.{Point}

-- What directions 0 to 7 add to column and row; rows go downward.
abbrev pub moves : List (ℤ × ℤ)
moves = (pos 1, pos 0) ∷ (pos 1, negsuc 0) ∷ (pos 0, negsuc 0) ∷ (negsuc 0, negsuc 0) ∷ (negsuc 0, pos 0) ∷ (negsuc 0, pos 1) ∷ (pos 0, pos 1) ∷ (pos 1, pos 1) ∷ []

-- The move of a direction.
abbrev pub move : ℕ → ℤ × ℤ
move d = slice_index_or moves d (pos 0, pos 0)

-- A whole number as a column or row below an end, or none.
abbrev pub within : ℕ → ℤ → Option ℕ
within end (pos x) = cond (nat_lt x end) (Some x) None
within end (negsuc x) = None

-- The point of a column and a row, where there are both.
abbrev pub both : Option ℕ → Option ℕ → Option Point
both (Some x) (Some y) = Some (record { col = x; row = y })
both (Some x) None = None
both None y = None

-- A point with columns and rows added, where that lies in a frame of a width and a height.
abbrev pub displaced : ℕ → ℕ → Point → ℤ → ℤ → Option Point
displaced w h p x y = both (within w (pos p.col +ℤ x)) (within h (pos p.row +ℤ y))

-- A point moved by a direction, where that lies in the frame.
abbrev pub moved : ℕ → ℕ → Point → ℕ → Option Point
moved w h p d = displaced w h p (move d).0 (move d).1
