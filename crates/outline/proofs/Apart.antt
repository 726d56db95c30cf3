-- Points of an outline are at most as many columns and rows apart as moves lie between them.
use Rattle.std.proofs.Common.{◌≡◌, ℕ, zero, suc, ◌+◌, ◌-◌, ◌<◌, ◌≤◌, length, get_or, ℤ, pos, ◌+ℤ◌, nat_abs, Some, subst, ⊎_elim, add-zero, add-suc, arith}
use mathlib.Core.Logic.{∥∥₁_elim}
use native.Mathlib.Bridge.{le_prop}
use borrow.Author.Differences.{ints}
use Rattle.std.proofs.lemmas.Bool.{cases_lt}
use Rattle.outline.specs.declared.point.Point.{Point}
use Rattle.outline.specs.Held.{origin, Follows}
use Rattle.outline.specs.Moves.{within, move, moved}
use Rattle.outline.specs.Plain.{Plain}
use Rattle.outline.specs.Rules.{Rules}
use Rattle.outline.proofs.Kept.{within_is, both_parts}

-- two points are at most n columns and n rows apart
abbrev pub Near : ℕ → Point → Point → Type 0
Near n p q = (p.col ≤ q.col + n) × (q.col ≤ p.col + n) × (p.row ≤ q.row + n) × (q.row ≤ p.row + n)

small_move : (d : ℕ) → (nat_abs (move d).0 ≤ 1) × (nat_abs (move d).1 ≤ 1)
small_move zero = omega arith
small_move (suc zero) = omega arith
small_move (suc (suc zero)) = omega arith
small_move (suc (suc (suc zero))) = omega arith
small_move (suc (suc (suc (suc zero)))) = omega arith
small_move (suc (suc (suc (suc (suc zero))))) = omega arith
small_move (suc (suc (suc (suc (suc (suc zero)))))) = omega arith
small_move (suc (suc (suc (suc (suc (suc (suc zero))))))) = omega arith
small_move (suc (suc (suc (suc (suc (suc (suc (suc d)))))))) = omega arith

step_one : (a b : ℕ) (m : ℤ) → nat_abs m ≤ 1 → pos a +ℤ m ≡ pos b → (a ≤ b + 1) × (b ≤ a + 1)
step_one a b m small e = omega (arith, ints)

-- a move goes at most one column and one row
pub moved_near : (w h : ℕ) (p q : Point) (d : ℕ) → moved w h p d ≡ Some q → Near 1 p q
moved_near w h p q d e =
    let parts = both_parts (within w (pos p.col +ℤ (move d).0)) (within h (pos p.row +ℤ (move d).1)) q e in
    let across = step_one p.col q.col (move d).0 (small_move d).0 (within_is w _ q.col parts.0) in
    let down = step_one p.row q.row (move d).1 (small_move d).1 (within_is h _ q.row parts.1) in
    (across.0, across.1, down.0, down.1)

pub follows_near : (w h : ℕ) (p q : Point) → Follows w h p q → Near 1 p q
follows_near w h p q f = (
  ∥∥₁_elim f le_prop (λ s. (moved_near w h p q s.0 s.2).0),
  ∥∥₁_elim f le_prop (λ s. (moved_near w h p q s.0 s.2).1),
  ∥∥₁_elim f le_prop (λ s. (moved_near w h p q s.0 s.2).2),
  ∥∥₁_elim f le_prop (λ s. (moved_near w h p q s.0 s.2).3),
)

-- the points i and i + n of an outline
pub apart_by : (p : Plain) → Rules p → (i n : ℕ) → i + n < length p.points → Near n (get_or p.points i origin) (get_or p.points (i + n) origin)
apart_by p rules i zero l = simp add-zero (omega arith)
apart_by p rules i (suc n) l =
    let before = apart_by p rules i n (omega arith) in
    let step = follows_near p.width p.height _ _ (rules.traced (i + n) (omega arith)) in
    simp add-suc (omega arith)

-- the points i and j of an outline
pub apart : (p : Plain) → Rules p → (i j : ℕ) → i ≤ j → j < length p.points → Near (j - i) (get_or p.points i origin) (get_or p.points j origin)
apart p rules i j h l =
    let there : i + (j - i) ≡ j = omega arith in
    let P : ℕ → Type 0 = λ k. Near (j - i) (get_or p.points i origin) (get_or p.points k origin) in
    subst P there (apart_by p rules i (j - i) (omega arith))

-- any two points of an outline
pub apart_most : (p : Plain) → Rules p → (i j : ℕ) → i < length p.points → j < length p.points → Near 255 (get_or p.points i origin) (get_or p.points j origin)
apart_most p rules i j l m =
    let count = rules.count in
    ⊎_elim
    (λ h. let near = apart p rules i j (omega arith) m in omega arith)
    (λ h. let near = apart p rules j i h l in omega arith)
    (cases_lt i j)
