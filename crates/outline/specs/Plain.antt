-- The plain outline: a frame and a list of points, and what the calls do to it.
use Rattle.std.specs.Prelude.{ℕ, ◌-◌, Bool, cond, ◌&&◌, List, [], ◌∷◌, ◌++◌, length, take, Some, None, Ok, Err, Option, Result, nat_le, nat_lt, slice_index_or}
use Rattle.outline.specs.declared.outline.Outline.{Outline}
use Rattle.outline.specs.declared.point.Point.{Point}
use Rattle.outline.specs.declared.refusal.Refusal.{Refusal}
use Rattle.outline.specs.declared.refusal.Refusal.TheVariants.{FrameSize, StartOutside, Direction, LeavesFrame, Full, OnlyStart}
use Rattle.outline.specs.Held.{held, origin}
use Rattle.outline.specs.Moves.{moved}

-- A frame and a list of points.
pub record Plain : Type 0 where
  pub width : ℕ
  pub height : ℕ
  pub points : List Point

-- The plain outline that an outline stands for.
abbrev pub plain : Outline → Plain
plain o = record { width = o.width; height = o.height; points = held o.points }

-- A new outline is one point in a 1 by 1 frame.
abbrev pub new_plain : Plain
new_plain = record { width = 1; height = 1; points = origin ∷ [] }

-- Whether a width or a height is one of 1 to 1,024 pels.
abbrev pub frame_size : ℕ → Bool
frame_size n = nat_lt 0 n && nat_le n 1024

-- Open sets the frame and the start alone, in a good frame and inside it.
abbrev pub opened : ℕ → ℕ → ℕ → ℕ → Result Plain Refusal
opened w h c r =
    cond (frame_size w && frame_size h)
    (cond (nat_lt c w && nat_lt r h) (Ok (record { width = w; height = h; points = record { col = c; row = r } ∷ [] })) (Err StartOutside))
    (Err FrameSize)

-- The same frame with a point more at the end.
abbrev pub with_point : Plain → Point → Plain
with_point p q = record { width = p.width; height = p.height; points = p.points ++ q ∷ [] }

-- The last point.
abbrev pub last_point : Plain → Point
last_point p = slice_index_or p.points (length p.points - 1) origin

-- The outline with the moved point at its end, or the step leaves the frame.
abbrev pub stepped : Plain → Option Point → Result Plain Refusal
stepped p (Some q) = Ok (with_point p q)
stepped p None = Err LeavesFrame

-- Extend appends the last point moved by a direction.
abbrev pub extended : Plain → ℕ → Result Plain Refusal
extended p d =
    cond (nat_lt 7 d) (Err Direction)
    (cond (nat_le 256 (length p.points)) (Err Full) (stepped p (moved p.width p.height (last_point p) d)))

-- Retract drops the last point, but never the start.
abbrev pub retracted : Plain → Result Plain Refusal
retracted p =
    cond (nat_le (length p.points) 1) (Err OnlyStart)
    (Ok (record { width = p.width; height = p.height; points = take (length p.points - 1) p.points }))

-- What a call answers: accepted, or its refusal.
abbrev pub answer : Result Plain Refusal → Result (Unit {0}) Refusal
answer (Ok p) = Ok tt
answer (Err e) = Err e

-- What a call leaves of the outline before it: a refusal changes nothing.
abbrev pub left_by : Plain → Result Plain Refusal → Plain
left_by p (Ok q) = q
left_by p (Err e) = p
