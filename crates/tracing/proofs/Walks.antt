-- Points that rules make an outline, and the walk along them.
use Rattle.std.proofs.Common.{◌≡◌, ℕ, suc, ◌+◌, ◌-◌, ◌<◌, ◌≤◌, true, ltb, leb, List, length, get_or, take, ℤ, pos, Some, None, Ok, Err, Option, Result, is_some, sym, refl, ap, ◌∙◌, subst, subst₂, ⊎_elim, arith, MatchOption}
use Rattle.std.specs.List.{AllWithin, HoldsAt}
use Rattle.std.specs.Result.{result_ok}
use Rattle.outline.specs.declared.outline.Outline.{Outline}
use mathlib.Core.Logic.{∥∥₁_elim}
use Rattle.std.proofs.lemmas.List.{take_more, get_or-take, length-take-le}
use Rattle.std.proofs.lemmas.Bool.{cases_lt, cond-true, cond-false, le-ltb, lt-leb, le-leb}
use Rattle.outline.specs.declared.point.Point.{Point}
use Rattle.outline.specs.declared.refusal.Refusal.TheVariants.{Full}
use Rattle.outline.specs.Held.{origin, Follows}
use Rattle.outline.specs.Moves.{displaced, moved, moves}
use Rattle.outline.specs.Plain.{plain, extended, stepped, last_point, answer}
use Rattle.outline.specs.Rules.{Rules}
use Rattle.tracing.specs.Tracing.{in_largest}

-- a point more by a direction, where there is room
pub extended_is : (ps : List Point) (k d : ℕ) → k < length ps → 1 ≤ k → k < 256 → d < 8 → moved 1024 1024 (get_or ps (k - 1) origin) d ≡ Some (get_or ps k origin) → extended (in_largest (take k ps)) d ≡ Ok (in_largest (take (k + 1) ps))
extended_is ps k d l some room small step =
    let n : length (take k ps) ≡ k = length-take-le k ps (omega arith) in
    let q = get_or ps k origin in
    let last : last_point (in_largest (take k ps)) ≡ get_or ps (k - 1) origin = ap (λ m. get_or (take k ps) (m - 1) origin) n ∙ get_or-take k ps (k - 1) origin (omega arith) in
    let go : moved 1024 1024 (last_point (in_largest (take k ps))) d ≡ Some q = ap (λ p. moved 1024 1024 p d) last ∙ step in
    cond-false (ltb 7 d) _ _ (le-ltb 7 d (omega arith))
    ∙ cond-false (leb 256 (length (take k ps))) _ _ (lt-leb 256 (length (take k ps)) (omega arith))
    ∙ ap (stepped (in_largest (take k ps))) go
    ∙ ap (λ xs. Ok (in_largest xs)) (sym (take_more ps k origin l))

-- a point more was taken in, so there was room
pub extended_room : (ps : List Point) (k d : ℕ) (x : Unit {0}) → k ≤ length ps → d < 8 → answer (extended (in_largest (take k ps)) d) ≡ Ok x → k < 256
extended_room ps k d x l small e =
    ⊎_elim (λ room. room)
    (λ (full : 256 ≤ k).
    let n : length (take k ps) ≡ k = length-take-le k ps l in
    let refused : extended (in_largest (take k ps)) d ≡ Err Full =
    cond-false (ltb 7 d) _ _ (le-ltb 7 d (omega arith)) ∙ cond-true (leb 256 (length (take k ps))) _ _ (le-leb 256 (length (take k ps)) (omega arith)) in
    let said : Err Full ≡ Ok x = sym (ap answer refused) ∙ e in
    let z : ◌≡◌ {A = ℕ} 0 1 = cc in absurd (omega arith))
    (cases_lt k 256)

-- where no direction leads on, the points are no outline
pub stuck : (ps : List Point) (k : ℕ) (from to : Point) → 1 ≤ k → k < length ps → from ≡ get_or ps (k - 1) origin → to ≡ get_or ps k origin → ((d : ℕ) → d < 8 → moved 1024 1024 from d ≡ Some to → ⊥) → Rules (in_largest ps) → ⊥
stuck ps k from to some l first second none rules =
    let next : suc (k - 1) ≡ k = omega arith in
    let follows : Follows 1024 1024 (get_or ps (k - 1) origin) (get_or ps k origin) = subst (λ i. Follows 1024 1024 (get_or ps (k - 1) origin) (get_or ps i origin)) next (rules.traced (k - 1) (omega arith)) in
    ∥∥₁_elim follows (λ x y. absurd x) (λ s. none s.0 s.1 (subst₂ (λ u v. moved 1024 1024 u s.0 ≡ Some v) (sym first) (sym second) s.2))

-- the first of the moves that leads on is that of a direction
pub direction_of : (from to : Point) (r : Option ℕ) → MatchOption r (AllWithin (λ (m : ℤ × ℤ). displaced 1024 1024 from m.0 m.1 ≡ Some to → ⊥) moves 0 8) (λ i. (i < 8) × HoldsAt (λ (m : ℤ × ℤ). displaced 1024 1024 from m.0 m.1 ≡ Some to) moves i × AllWithin (λ (m : ℤ × ℤ). displaced 1024 1024 from m.0 m.1 ≡ Some to → ⊥) moves 0 i)
    → MatchOption r ((d : ℕ) → d < 8 → moved 1024 1024 from d ≡ Some to → ⊥) (λ d. (d < 8) × (moved 1024 1024 from d ≡ Some to))
direction_of from to None none = λ d l. none d (pos 0, pos 0) (omega arith) l
direction_of from to (Some i) h = (h.0, h.1 (pos 0, pos 0))

pub ok_of : {T E : Type 0} (r : Result T E) (x : T) → Some x ≡ result_ok r → r ≡ Ok x
ok_of (Ok y) x e = cc
ok_of (Err f) x e = let z : ◌≡◌ {A = ℕ} 0 1 = cc in absurd (omega arith)

-- the points of an outline are traced
pub traced_some : (o : Option Outline) (ps : List Point) → Rules (in_largest ps) → MatchOption o (Rules (in_largest ps) → ⊥) (λ x. plain x ≡ in_largest ps) → is_some o ≡ true
traced_some (Some x) ps rules h = refl
traced_some None ps rules h = absurd (h rules)
