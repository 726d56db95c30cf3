-- Moves taken some times, and the direction of a displacement.
use Rattle.std.specs.Prelude.{◌≡◌, ℕ, zero, suc, ◌+◌, ◌*◌, ◌^◌, ◌<◌, ◌≤◌, max, Bool, true, cond, ◌&&◌, List, [], ◌∷◌, ◌++◌, ℤ, pos, negsuc, ◌*ℤ◌, neg_ℤ, Some, None, Ok, Err, Option, Result, FitsSigned, ◌≢◌, int_le, nat_lt, slice_index, unsigned_abs, refl}
use Rattle.std.proofs.Common.{⊎_elim, sym, ap, ap₂, ◌∙◌, subst, subst₂, arith, to_z, of_z}
use Rattle.std.specs.Int.{w16, w32}
use Rattle.outline.specs.declared.direction.Direction.{Direction}
use Rattle.outline.specs.declared.refusal.Refusal.{Refusal}
use Rattle.outline.specs.Directions.{direction_number, Numbered}
use Rattle.outline.specs.Moves.{move, moves}
use Rattle.std.proofs.lemmas.List.{get_or_past}
use Rattle.std.proofs.lemmas.Int.{ints, to_z-of_z}
use Rattle.std.proofs.lemmas.Bool.{and_from, and_parts, cases_Bool, cases_lt, cond-true, cond-false, le-leb, lt-ltb}
use Rattle.std.specs.Option.{option_map}
use Rattle.std.specs.Result.{result_ok}
use Rattle.coding.specs.Fields.{none-some}
use Rattle.coding.specs.Directions.{taken, Along, Leads, same, first, heading, along}

-- a fact of each of the eight directions
pub each : (P : ℕ → Type 0) → P 0 → P 1 → P 2 → P 3 → P 4 → P 5 → P 6 → P 7 → (d : ℕ) → d < 8 → P d
each P p0 p1 p2 p3 p4 p5 p6 p7 zero h = p0
each P p0 p1 p2 p3 p4 p5 p6 p7 (suc zero) h = p1
each P p0 p1 p2 p3 p4 p5 p6 p7 (suc (suc zero)) h = p2
each P p0 p1 p2 p3 p4 p5 p6 p7 (suc (suc (suc zero))) h = p3
each P p0 p1 p2 p3 p4 p5 p6 p7 (suc (suc (suc (suc zero)))) h = p4
each P p0 p1 p2 p3 p4 p5 p6 p7 (suc (suc (suc (suc (suc zero))))) h = p5
each P p0 p1 p2 p3 p4 p5 p6 p7 (suc (suc (suc (suc (suc (suc zero)))))) h = p6
each P p0 p1 p2 p3 p4 p5 p6 p7 (suc (suc (suc (suc (suc (suc (suc zero))))))) h = p7
each P p0 p1 p2 p3 p4 p5 p6 p7 (suc (suc (suc (suc (suc (suc (suc (suc d)))))))) h = absurd (omega arith)

-- the direction of a number
pub number_told : (n : ℕ) (r : Result Direction Refusal) (d : Direction) → Numbered n r → Some d ≡ result_ok r → direction_number d ≡ n
number_told n (Ok e) d is told = let same : d ≡ e = cc in ap direction_number same ∙ is
number_told n (Err e) d is told = none-some d (sym told)

pub number_untold : (n : ℕ) (r : Result Direction Refusal) → Numbered n r → None ≡ result_ok r → 8 ≤ n
number_untold n (Ok e) is none = none-some e none
number_untold n (Err e) is none = is.0

-- a move changes each number by one at most
pub move_small : (d : ℕ) → d < 8 → (unsigned_abs (move d).0 ≤ 1) × (unsigned_abs (move d).1 ≤ 1)
move_small = each (λ d. (unsigned_abs (move d).0 ≤ 1) × (unsigned_abs (move d).1 ≤ 1)) (omega arith) (omega arith) (omega arith) (omega arith) (omega arith) (omega arith) (omega arith) (omega arith)

-- a length times a small number
pub times_bound : (l : ℕ) (z : ℤ) → unsigned_abs z ≤ 1 → unsigned_abs (pos l *ℤ z) ≤ l
times_bound l (pos zero) h = omega arith
times_bound l (pos (suc zero)) h = omega arith
times_bound l (pos (suc (suc n))) h = absurd (omega arith)
times_bound l (negsuc zero) h = omega (arith, ints)
times_bound l (negsuc (suc n)) h = absurd (omega arith)

module _ (l : ℕ) (z : ℤ) (short : l < 2 ^ 16) (small : unsigned_abs z ≤ 1) where
  wide : to_z w32 l *ℤ to_z w32 (of_z w32 (to_z w16 (of_z w16 z))) ≡ pos l *ℤ z
  wide =
      let left : to_z w32 l ≡ pos l = omega (arith, ints) in
      let right : to_z w32 (of_z w32 (to_z w16 (of_z w16 z))) ≡ z = omega (arith, ints) in
      ap₂ ◌*ℤ◌ left right

  pub times_fits : FitsSigned w32 (to_z w32 l *ℤ to_z w32 (of_z w32 (to_z w16 (of_z w16 z))))
  times_fits = let bound = times_bound l z small in subst (FitsSigned w32) (sym wide) (omega (arith, ints))

  pub times_is : to_z w32 (of_z w32 (to_z w32 l *ℤ to_z w32 (of_z w32 (to_z w16 (of_z w16 z))))) ≡ pos l *ℤ z
  times_is =
      let bound = times_bound l z small in
      let back : to_z w32 (of_z w32 (pos l *ℤ z)) ≡ pos l *ℤ z = omega (arith, ints) in
      ap (λ p. to_z w32 (of_z w32 p)) wide ∙ back

-- 0, 1 or 2 for a number below, at or above zero
abbrev sign : ℤ → ℕ
sign (pos zero) = 1
sign (pos (suc n)) = 2
sign (negsuc n) = 0

sign_times : (l : ℕ) (z : ℤ) → 1 ≤ l → unsigned_abs z ≤ 1 → sign (pos l *ℤ z) ≡ sign z
sign_times zero z some small = absurd (omega arith)
sign_times (suc k) (pos zero) some small = let e : suc k * 0 ≡ 0 = omega arith in ap (λ n. sign (pos n)) e
sign_times (suc k) (pos (suc zero)) some small = let e : suc k * 1 ≡ suc k = omega arith in ap (λ n. sign (pos n)) e
sign_times (suc k) (pos (suc (suc n))) some small = absurd (omega arith)
sign_times (suc k) (negsuc zero) some small = let e : suc k * 1 ≡ suc k = omega arith in ap (λ n. sign (neg_ℤ (pos n))) e
sign_times (suc k) (negsuc (suc n)) some small = absurd (omega arith)

-- the direction by the signs
abbrev side : ℕ → ℕ → ℕ
side s t = slice_index (3 ∷ 4 ∷ 5 ∷ 2 ∷ 8 ∷ 6 ∷ 1 ∷ 0 ∷ 7 ∷ []) (3 * s + t)

side_of : (d : ℕ) → d < 8 → side (sign (move d).0) (sign (move d).1) ≡ d
side_of = each (λ d. side (sign (move d).0) (sign (move d).1) ≡ d) refl refl refl refl refl refl refl refl

along_side : (x y : ℤ) (d l : ℕ) → Along x y d l → side (sign x) (sign y) ≡ d
along_side x y d l a =
    let small = move_small d a.0 in
    ap₂ side (ap sign a.2 ∙ sign_times l (move d).0 a.1 small.0) (ap sign a.3 ∙ sign_times l (move d).1 a.1 small.1) ∙ side_of d a.0

pub along_one : (x y : ℤ) (d l e m : ℕ) → Along x y d l → Along x y e m → d ≡ e
along_one x y d l e m a b = sym (along_side x y d l a) ∙ along_side x y e m b

-- one of the two numbers is as large as the length
abs_times : (l : ℕ) (z : ℤ) → unsigned_abs z ≤ 1 → unsigned_abs (pos l *ℤ z) ≡ l * unsigned_abs z
abs_times l (pos n) small = refl
abs_times l (negsuc zero) small = omega (arith, ints)
abs_times l (negsuc (suc n)) small = absurd (omega arith)

whole_move : (d : ℕ) → d < 8 → max (unsigned_abs (move d).0) (unsigned_abs (move d).1) ≡ 1
whole_move = each (λ d. max (unsigned_abs (move d).0) (unsigned_abs (move d).1) ≡ 1) refl refl refl refl refl refl refl refl

max_times : (l a b : ℕ) → a ≤ 1 → b ≤ 1 → max a b ≡ 1 → max (l * a) (l * b) ≡ l
max_times l zero zero p q r = absurd (omega arith)
max_times l zero (suc zero) p q r = omega arith
max_times l zero (suc (suc b)) p q r = absurd (omega arith)
max_times l (suc zero) zero p q r = omega arith
max_times l (suc zero) (suc zero) p q r = omega arith
max_times l (suc zero) (suc (suc b)) p q r = absurd (omega arith)
max_times l (suc (suc a)) b p q r = absurd (omega arith)

pub along_length : (x y : ℤ) (d l : ℕ) → Along x y d l → max (unsigned_abs x) (unsigned_abs y) ≡ l
along_length x y d l a =
    let small = move_small d a.0 in
    ap₂ max (ap unsigned_abs a.2 ∙ abs_times l (move d).0 small.0) (ap unsigned_abs a.3 ∙ abs_times l (move d).1 small.1)
    ∙ max_times l (unsigned_abs (move d).0) (unsigned_abs (move d).1) small.0 small.1 (whole_move d a.0)

same_refl : (a : ℤ) → same a a ≡ true
same_refl (pos n) = let e = le-leb n n (omega arith) in and_from _ _ e e
same_refl (negsuc n) = let e = le-leb n n (omega arith) in and_from _ _ e e

same_true : (a b : ℤ) → same a b ≡ true → a ≡ b
same_true a b e = let parts = and_parts (int_le a b) (int_le b a) e in omega (arith, ints, parts.0, parts.1)

first_at : (p : ℕ → Bool) (d : ℕ) → p d ≡ true → ((e : ℕ) → p e ≡ true → e ≡ d) → (ds es : List ℕ) → first p (ds ++ d ∷ es) ≡ Some d
first_at p d passes one [] es = cond-true (p d) _ _ passes
first_at p d passes one (e ∷ ds) es =
    ⊎_elim
    (λ t. cond-true (p e) _ _ t ∙ ap Some (one e t))
    (λ f. cond-false (p e) _ _ f ∙ first_at p d passes one ds es)
    (cases_Bool (p e))

abbrev Below : List ℕ → Type 0
Below [] = Unit {0}
Below (d ∷ ds) = (d < 8) × Below ds

first_from : (p : ℕ → Bool) (ds : List ℕ) (d : ℕ) → Below ds → first p ds ≡ Some d → (p d ≡ true) × (d < 8)
first_from p [] d below e = none-some d e
first_from p (x ∷ ds) d below e =
    ⊎_elim
    (λ t. let s : Some x ≡ Some d = sym (cond-true (p x) _ _ t) ∙ e in let here : x ≡ d = cc in (ap p (sym here) ∙ t, subst (λ n. n < 8) here below.0))
    (λ f. first_from p ds d below.1 (sym (cond-false (p x) _ _ f) ∙ e))
    (cases_Bool (p x))

abbrev goes : ℤ → ℤ → ℕ → ℕ → Bool
goes x y l d = same x (taken d l).0 && same y (taken d l).1

goes_from : (x y : ℤ) (d l : ℕ) → Along x y d l → goes x y l d ≡ true
goes_from x y d l a = and_from _ _ (ap (same x) (sym a.2) ∙ same_refl x) (ap (same y) (sym a.3) ∙ same_refl y)

goes_true : (x y : ℤ) (d l : ℕ) → goes x y l d ≡ true → (x ≡ (taken d l).0) × (y ≡ (taken d l).1)
goes_true x y d l t = let parts = and_parts _ _ t in (same_true x (taken d l).0 parts.0, same_true y (taken d l).1 parts.1)

-- past the directions nothing moves
goes_one : (x y : ℤ) (d l e : ℕ) → Along x y d l → goes x y l e ≡ true → e ≡ d
goes_one x y d l e a t =
    let to = goes_true x y e l t in
    ⊎_elim
    (λ low. along_one x y e l d l (low, a.1, to.0, to.1) a)
    (λ high.
    let still : move e ≡ (pos 0, pos 0) = get_or_past moves e (pos 0, pos 0) high in
    let no_x : unsigned_abs x ≡ l * 0 = ap unsigned_abs (to.0 ∙ ap (λ (m : ℤ × ℤ). pos l *ℤ m.0) still) in
    let no_y : unsigned_abs y ≡ l * 0 = ap unsigned_abs (to.1 ∙ ap (λ (m : ℤ × ℤ). pos l *ℤ m.1) still) in
    absurd (omega (arith, along_length x y d l a, a.1)))
    (cases_lt e 8)

found_at : (x y : ℤ) (l d : ℕ) (ds es : List ℕ) → Along x y d l → first (goes x y l) (ds ++ d ∷ es) ≡ Some d
found_at x y l d ds es a = first_at (goes x y l) d (goes_from x y d l a) (λ e t. goes_one x y d l e a t) ds es

heading_found : (x y : ℤ) (l d : ℕ) → Along x y d l → heading x y l ≡ Some d
heading_found x y l d a =
    each (λ n. Along x y n l → heading x y l ≡ Some n)
    (found_at x y l 0 [] (1 ∷ 2 ∷ 3 ∷ 4 ∷ 5 ∷ 6 ∷ 7 ∷ []))
    (found_at x y l 1 (0 ∷ []) (2 ∷ 3 ∷ 4 ∷ 5 ∷ 6 ∷ 7 ∷ []))
    (found_at x y l 2 (0 ∷ 1 ∷ []) (3 ∷ 4 ∷ 5 ∷ 6 ∷ 7 ∷ []))
    (found_at x y l 3 (0 ∷ 1 ∷ 2 ∷ []) (4 ∷ 5 ∷ 6 ∷ 7 ∷ []))
    (found_at x y l 4 (0 ∷ 1 ∷ 2 ∷ 3 ∷ []) (5 ∷ 6 ∷ 7 ∷ []))
    (found_at x y l 5 (0 ∷ 1 ∷ 2 ∷ 3 ∷ 4 ∷ []) (6 ∷ 7 ∷ []))
    (found_at x y l 6 (0 ∷ 1 ∷ 2 ∷ 3 ∷ 4 ∷ 5 ∷ []) (7 ∷ []))
    (found_at x y l 7 (0 ∷ 1 ∷ 2 ∷ 3 ∷ 4 ∷ 5 ∷ 6 ∷ []) [])
    d a.0 a

abbrev told : ℕ → Option ℕ → Option (ℕ × ℕ)
told l h = cond (nat_lt 0 l) (option_map (λ d. (d, l)) h) None

pub along_from : (x y : ℤ) (d l : ℕ) → Along x y d l → along x y ≡ Some (d, l)
along_from x y d l a =
    ap (λ n. told n (heading x y n)) (along_length x y d l a)
    ∙ cond-true (nat_lt 0 l) _ _ (lt-ltb 0 l a.1)
    ∙ ap (option_map (λ e. (e, l))) (heading_found x y l d a)

told_some : (m : ℕ) (h : Option ℕ) (d l : ℕ) → told m h ≡ Some (d, l) → (1 ≤ m) × (h ≡ Some d) × (m ≡ l)
told_some zero h d l e = none-some (d, l) e
told_some (suc m) None d l e = none-some (d, l) (sym (cond-true (nat_lt 0 (suc m)) _ _ (lt-ltb 0 (suc m) (omega arith))) ∙ e)
told_some (suc m) (Some f) d l e =
    let s : ◌≡◌ {A = Option (ℕ × ℕ)} (Some (f, suc m)) (Some (d, l)) = sym (cond-true (nat_lt 0 (suc m)) _ _ (lt-ltb 0 (suc m) (omega arith))) ∙ e in
    let p : ◌≡◌ {A = ℕ × ℕ} (f, suc m) (d, l) = cc in
    let some : 1 ≤ suc m = omega arith in
    (some, ap (λ (q : ℕ × ℕ). Some q.0) p, ap (λ (q : ℕ × ℕ). q.1) p)

pub along_is : (x y : ℤ) (d l : ℕ) → along x y ≡ Some (d, l) → Along x y d l
along_is x y d l e =
    let m = max (unsigned_abs x) (unsigned_abs y) in
    let parts = told_some m (heading x y m) d l e in
    let below : Below (0 ∷ 1 ∷ 2 ∷ 3 ∷ 4 ∷ 5 ∷ 6 ∷ 7 ∷ []) = (omega arith, (omega arith, (omega arith, (omega arith, (omega arith, (omega arith, (omega arith, (omega arith, tt)))))))) in
    let from = first_from (goes x y m) (0 ∷ 1 ∷ 2 ∷ 3 ∷ 4 ∷ 5 ∷ 6 ∷ 7 ∷ []) d below parts.1 in
    let to = goes_true x y d m from.0 in
    (from.1, omega (arith, parts.0, parts.2), to.0 ∙ ap (λ n. (taken d n).0) parts.2, to.1 ∙ ap (λ n. (taken d n).1) parts.2)

pub along_leads : (x y : ℤ) → Leads x y (along x y)
along_leads x y d l = (along_from x y d l, along_is x y d l)

pub along_none : (x y : ℤ) → ((d l : ℕ) → Along x y d l → ⊥) → along x y ≡ None
along_none x y never = go (along x y) refl
  where
    go : (r : Option (ℕ × ℕ)) → along x y ≡ r → r ≡ None
    go None e = refl
    go (Some p) e = absurd (never p.0 p.1 (along_is x y p.0 p.1 e))

-- a number as a call passes it on
abbrev sent : ℤ → ℤ
sent z = to_z w16 (of_z w16 z)

-- a length times the move of the one direction that there can be, against the displacement
module _ (x y : ℤ) (h m a b : ℕ) (t : ℤ × ℤ) (fx : FitsSigned w16 x) (fy : FitsSigned w16 y) (is : t ≡ taken h m) (in_x : a ≡ unsigned_abs (sent x)) (in_y : b ≡ unsigned_abs (sent y)) (long : m ≡ max a b) (one : (d l : ℕ) → Along (sent x) (sent y) d l → d ≡ h) where
  same_x : sent x ≡ x
  same_x = to_z-of_z w16 x fx

  same_y : sent y ≡ y
  same_y = to_z-of_z w16 y fy

  there : (d l : ℕ) → Along x y d l → (x ≡ t.0) × (y ≡ t.1) × (1 ≤ m)
  there d l r =
      let n : l ≡ m = sym (along_length x y d l r) ∙ ap₂ max (ap unsigned_abs (sym same_x) ∙ sym in_x) (ap unsigned_abs (sym same_y) ∙ sym in_y) ∙ sym long in
      let to : taken d l ≡ t = ap₂ taken (one d l (subst₂ (λ p q. Along p q d l) (sym same_x) (sym same_y) r)) n ∙ sym is in
      (r.2 ∙ ap (λ (p : ℤ × ℤ). p.0) to, r.3 ∙ ap (λ (p : ℤ × ℤ). p.1) to, omega (arith, r.1))

  pub not_cols : (of_z w32 t.0 ≢ of_z w32 (sent x)) → None ≡ along x y
  not_cols apart = sym (along_none x y (λ d l r. apart (ap (of_z w32) (sym (there d l r).0 ∙ sym same_x))))

  pub not_rows : (of_z w32 t.1 ≢ of_z w32 (sent y)) → None ≡ along x y
  not_rows apart = sym (along_none x y (λ d l r. apart (ap (of_z w32) (sym (there d l r).1 ∙ sym same_y))))

  pub not_long : m ≤ 0 → None ≡ along x y
  not_long none = sym (along_none x y (λ d l r. omega (arith, (there d l r).2)))

  pub found : h < 8 → 0 < m → FitsSigned w32 t.0 → FitsSigned w32 t.1 → of_z w32 t.0 ≡ of_z w32 (sent x) → of_z w32 t.1 ≡ of_z w32 (sent y) → Some (h, m) ≡ along x y
  found small some f g p q =
      let cols : x ≡ t.0 = omega (arith, ints) in
      let rows : y ≡ t.1 = omega (arith, ints) in
      sym (along_from x y h m (small, some, cols ∙ ap (λ (p : ℤ × ℤ). p.0) is, rows ∙ ap (λ (p : ℤ × ℤ). p.1) is))
