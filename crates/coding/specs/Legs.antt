-- Tables that write a direction and a length.
use Rattle.std.specs.Prelude.{◌≡◌, ℕ, ◌<◌, ◌≤◌, Bool, true, false, cond, ◌&&◌, List, length, ℤ, pos, negsuc, Some, None, Option, FitsSigned, unsigned_abs, refl}
use Rattle.std.proofs.Common.{sym, ap, ap₂, ◌∙◌, arith, to_z, of_z}
use Rattle.std.specs.Int.{w16}
use Rattle.outline.specs.Moves.{move}
use Rattle.std.proofs.lemmas.Int.{ints, to_z-of_z}
use Rattle.std.proofs.lemmas.Bool.{and_from, le-leb, true≢false}
use Rattle.std.specs.Bool.{then_some}
use Rattle.std.specs.Option.{option_map, option_flatten}
use Rattle.coding.specs.Bits.{value, Begins}
use Rattle.coding.specs.Directions.{taken, Along, along}
use Rattle.coding.specs.Kinds.{by_direction}
use Rattle.coding.specs.Tables.{near, Codes, Reads, price_of, spelled}
use Rattle.coding.specs.Fields.{none-some}
use Rattle.coding.specs.Straight.{move_small, times_bound, along_from, along_is}

abbrev pub Leg : Type 0
Leg = ℕ → ℕ → Option (List Bool)

-- the code at an answer of the direction and the length
abbrev pub coded : Leg → Option (ℕ × ℕ) → Option (List Bool)
coded f r = option_flatten (option_map (λ (p : ℕ × ℕ). f p.0 p.1) r)

module _ (f : Leg) where
  pub at_leg : (d l : ℕ) → d < 8 → 1 ≤ l → by_direction f (taken d l).0 (taken d l).1 ≡ f d l
  at_leg d l small some = ap (coded f) (along_from (taken d l).0 (taken d l).1 d l (small, some, refl, refl))

  -- a displacement with a code has a direction and a length
  pub leg_of : (x y : ℤ) (code : List Bool) → by_direction f x y ≡ Some code → (d : ℕ) × (l : ℕ) × Along x y d l × (f d l ≡ Some code)
  leg_of x y code e = go (along x y) refl e
    where
      go : (r : Option (ℕ × ℕ)) → along x y ≡ r → coded f r ≡ Some code → (d : ℕ) × (l : ℕ) × Along x y d l × (f d l ≡ Some code)
      go None same e = none-some code e
      go (Some p) same e = (p.0, p.1, along_is x y p.0 p.1 same, e)

  -- what a call of `direction` answered
  pub at_answer : (x y : ℤ) (r : Option (ℕ × ℕ)) → FitsSigned w16 x → FitsSigned w16 y → r ≡ along (to_z w16 (of_z w16 x)) (to_z w16 (of_z w16 y)) → coded f r ≡ by_direction f x y
  at_answer x y r fx fy e = ap (coded f) (e ∙ ap₂ along (to_z-of_z w16 x fx) (to_z-of_z w16 y fy))

near_from : (x : ℤ) → unsigned_abs x ≤ 1023 → near x ≡ true
near_from (pos n) h = le-leb n 1023 h
near_from (negsuc n) h = and_from _ _ (le-leb n 1022 (omega arith)) refl

-- what a code of directions and lengths keeps
pub record Legs (f : Leg) : Type 0 where
  pub sized : (d l : ℕ) (code : List Bool) → d < 8 → 1 ≤ l → f d l ≡ Some code → (1 ≤ length code) × (length code ≤ 32) × (l ≤ 1023)
  pub apart : (d l e m : ℕ) (code code' : List Bool) → d < 8 → 1 ≤ l → e < 8 → 1 ≤ m → f d l ≡ Some code → f e m ≡ Some code' → Begins code code' → (d ≡ e) × (l ≡ m)

along_bound : (x y : ℤ) (d l : ℕ) → Along x y d l → (unsigned_abs x ≤ l) × (unsigned_abs y ≤ l)
along_bound x y d l a =
    let small = move_small d a.0 in
    (omega (arith, ap unsigned_abs a.2, times_bound l (move d).0 small.0), omega (arith, ap unsigned_abs a.3, times_bound l (move d).1 small.1))

pub leg_codes : (f : Leg) → Legs f → Codes (by_direction f)
leg_codes f legs =
    record {
      sized = λ x y code e.
          let leg = leg_of f x y code e in
          let size = legs.sized leg.0 leg.1 code leg.2.0 leg.2.1 leg.3 in
          (size.0, size.1);
      displaced = λ x y far. go x y far (by_direction f x y) refl;
      apart = λ x y x' y' code code' e e' b.
          let leg = leg_of f x y code e in
          let leg' = leg_of f x' y' code' e' in
          let same = legs.apart leg.0 leg.1 leg'.0 leg'.1 code code' leg.2.0 leg.2.1 leg'.2.0 leg'.2.1 leg.3 leg'.3 b in
          let to : taken leg.0 leg.1 ≡ taken leg'.0 leg'.1 = ap₂ taken same.0 same.1 in
          (leg.2.2 ∙ ap (λ (p : ℤ × ℤ). p.0) to ∙ sym leg'.2.2, leg.2.3 ∙ ap (λ (p : ℤ × ℤ). p.1) to ∙ sym leg'.2.3);
    }
  where
    go : (x y : ℤ) → (near x && near y) ≡ false → (r : Option (List Bool)) → by_direction f x y ≡ r → r ≡ None
    go x y far None e = refl
    go x y far (Some code) e =
        let leg = leg_of f x y code e in
        let size = legs.sized leg.0 leg.1 code leg.2.0 leg.2.1 leg.3 in
        let bound = along_bound x y leg.0 leg.1 leg.2 in
        absurd (true≢false (sym (and_from (near x) (near y) (near_from x (omega (arith, size, bound))) (near_from y (omega (arith, size, bound)))) ∙ far))

-- a displacement that was read
pub leg_read : (f : Leg) (row : List Bool) (d l n : ℕ) (p : ℤ × ℤ) (code : List Bool) → d < 8 → 1 ≤ l → l ≤ 1023 → p ≡ taken d l → f d l ≡ Some code → Begins code row → n ≡ length code
    → Reads (by_direction f) row (Some (to_z w16 (of_z w16 p.0), to_z w16 (of_z w16 p.1), n))
leg_read f row d l n p code small some short is e begins long =
    let bound = along_bound (taken d l).0 (taken d l).1 d l (small, some, refl, refl) in
    let x = (taken d l).0 in
    let y = (taken d l).1 in
    let fx : FitsSigned w16 x = omega (arith, ints) in
    let fy : FitsSigned w16 y = omega (arith, ints) in
    let at : by_direction f (to_z w16 (of_z w16 p.0)) (to_z w16 (of_z w16 p.1)) ≡ f d l =
    ap (λ (q : ℤ × ℤ). by_direction f (to_z w16 (of_z w16 q.0)) (to_z w16 (of_z w16 q.1))) is ∙ ap₂ (by_direction f) (to_z-of_z w16 x fx) (to_z-of_z w16 y fy) ∙ at_leg f d l small some in
    (code, at ∙ e, begins, long)

pub leg_none : (f : Leg) (row : List Bool) → ((d l : ℕ) (code : List Bool) → d < 8 → 1 ≤ l → f d l ≡ Some code → Begins code row → ⊥) → Reads (by_direction f) row None
leg_none f row never x y code e begins =
    let leg = leg_of f x y code e in
    never leg.0 leg.1 code leg.2.0 leg.2.1 leg.3 begins

-- what price and code answer, from the direction and the length that a call gave
module _ (f : Leg) (x y : ℤ) (d l : ℕ) (fx : FitsSigned w16 x) (fy : FitsSigned w16 y) (told : Some (d, l) ≡ along (to_z w16 (of_z w16 x)) (to_z w16 (of_z w16 y))) where
  pub leg_small : (d < 8) × (1 ≤ l)
  leg_small = let a = along_is (to_z w16 (of_z w16 x)) (to_z w16 (of_z w16 y)) d l (sym told) in (a.0, a.1)

  at : by_direction f x y ≡ f d l
  at = sym (at_answer f x y (Some (d, l)) fx fy told)

  -- where a test says whether there is a code
  pub leg_price : (t : Bool) (code : List Bool) (n : ℕ) → f d l ≡ cond t (Some code) None → n ≡ length code → then_some t n ≡ price_of (by_direction f x y)
  leg_price true code n e long = ap Some long ∙ ap price_of (sym (at ∙ e))
  leg_price false code n e long = ap price_of (sym (at ∙ e))

  pub leg_code : (t : Bool) (code : List Bool) (v n : ℕ) → f d l ≡ cond t (Some code) None → (t ≡ true → v ≡ value code) → n ≡ length code → then_some t (v, n) ≡ spelled (by_direction f x y)
  leg_code true code v n e spells long = ap₂ (λ (a b : ℕ). Some (a, b)) (spells refl) long ∙ ap spelled (sym (at ∙ e))
  leg_code false code v n e spells long = ap spelled (sym (at ∙ e))

  pub leg_no_price : f d l ≡ None → None ≡ price_of (by_direction f x y)
  leg_no_price e = ap price_of (sym (at ∙ e))

  pub leg_no_code : f d l ≡ None → None ≡ spelled (by_direction f x y)
  leg_no_code e = ap spelled (sym (at ∙ e))
