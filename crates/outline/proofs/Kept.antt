-- The rules of an outline's points stay when a moved point is added and when the last is dropped.
use Rattle.std.proofs.Common.{◌≡◌, ℕ, suc, ◌+◌, ◌-◌, ◌<◌, ◌≤◌, ltb, List, [], ◌∷◌, ◌++◌, length, get_or, take, ℤ, pos, negsuc, ◌+ℤ◌, Some, None, Option, sym, ap, ◌∙◌, subst, subst₂, ⊎_elim, arith, length-take}
use Rattle.std.proofs.lemmas.List.{get_or-take, get_or_append_left, get_or_push, length_push}
use Rattle.std.proofs.lemmas.Bool.{cases_Bool, ltb-true, cases_lt}
use Rattle.outline.specs.declared.outline.Outline.{Outline}
use Rattle.outline.specs.declared.point.Point.{Point}
use Rattle.outline.specs.declared.direction.Direction.{Direction}
use Rattle.outline.specs.declared.direction.Direction.TheVariants.{East, Northeast, North, Northwest, West, Southwest, South, Southeast}
use Rattle.outline.specs.Directions.{direction_number}
use Rattle.outline.specs.Held.{origin, Framed, Follows, Traced}
use Rattle.outline.specs.Moves.{within, both, displaced, moved}
use Rattle.outline.specs.Plain.{plain}
use Rattle.outline.specs.Rules.{Rules}

none-some : {X : Type 0} {P : Type 0} (x : X) → None ≡ Some x → P
none-some x e = let z : ◌≡◌ {A = ℕ} 0 1 = cc in absurd (omega arith)

pub number_small : (d : Direction) → direction_number d < 8
number_small d = elim d as (λ x. direction_number x < 8) [
  | East ↦ omega arith
  | Northeast ↦ omega arith
  | North ↦ omega arith
  | Northwest ↦ omega arith
  | West ↦ omega arith
  | Southwest ↦ omega arith
  | South ↦ omega arith
  | Southeast ↦ omega arith
]

pub within_below : (end : ℕ) (z : ℤ) (x : ℕ) → within end z ≡ Some x → x < end
within_below end (pos y) x e =
    ⊎_elim
    (λ t. let s : Some y ≡ Some x = (rw t at e) in let same : y ≡ x = cc in omega (arith, ltb-true y end t))
    (λ f. none-some x (rw f at e))
    (cases_Bool (ltb y end))
within_below end (negsuc y) x e = none-some x e

pub within_is : (end : ℕ) (z : ℤ) (x : ℕ) → within end z ≡ Some x → z ≡ pos x
within_is end (pos y) x e =
    ⊎_elim
    (λ t. let s : Some y ≡ Some x = (rw t at e) in ap pos (cc))
    (λ f. none-some x (rw f at e))
    (cases_Bool (ltb y end))
within_is end (negsuc y) x e = none-some x e

pub both_parts : (c r : Option ℕ) (q : Point) → both c r ≡ Some q → (c ≡ Some q.col) × (r ≡ Some q.row)
both_parts (Some x) (Some y) q e =
    let p : record { col = x; row = y } ≡ q = cc in
    (ap (λ (t : Point). Some t.col) p, ap (λ (t : Point). Some t.row) p)
both_parts (Some x) None q e = none-some q e
both_parts None r q e = none-some q e

-- a displaced point lies in the frame
pub displaced_inside : (w h : ℕ) (p : Point) (x y : ℤ) (q : Point) → displaced w h p x y ≡ Some q → (q.col < w) × (q.row < h)
displaced_inside w h p x y q e =
    let parts = both_parts (within w (pos p.col +ℤ x)) (within h (pos p.row +ℤ y)) q e in
    (within_below w _ q.col parts.0, within_below h _ q.row parts.1)

pub framed_push : (w h : ℕ) (ps : List Point) (q : Point) → Framed w h ps → (q.col < w) × (q.row < h) → Framed w h (ps ++ q ∷ [])
framed_push w h ps q framed inside k l =
    let P : Point → Type 0 = λ x. (x.col < w) × (x.row < h) in
    let n : length (ps ++ q ∷ []) ≡ length ps + 1 = length_push ps q in
    ⊎_elim
    (λ low. subst P (sym (get_or_append_left ps (q ∷ []) origin k low)) (framed k low))
    (λ high. subst P (sym (get_or_push ps q origin k (omega arith))) inside)
    (cases_lt k (length ps))

pub traced_push : (w h : ℕ) (ps : List Point) (q : Point) (d : ℕ) → Traced w h ps → 1 ≤ length ps → d < 8 → moved w h (get_or ps (length ps - 1) origin) d ≡ Some q → Traced w h (ps ++ q ∷ [])
traced_push w h ps q d traced some small step k l =
    let n : length (ps ++ q ∷ []) ≡ length ps + 1 = length_push ps q in
    let at_k : get_or (ps ++ q ∷ []) k origin ≡ get_or ps k origin = get_or_append_left ps (q ∷ []) origin k (omega arith) in
    ⊎_elim
    (λ low.
    let next : get_or (ps ++ q ∷ []) (suc k) origin ≡ get_or ps (suc k) origin = get_or_append_left ps (q ∷ []) origin (suc k) low in
    subst₂ (Follows w h) (sym at_k) (sym next) (traced k low))
    (λ high.
    let next : get_or (ps ++ q ∷ []) (suc k) origin ≡ q = get_or_push ps q origin (suc k) (omega arith) in
    let here : k ≡ length ps - 1 = omega arith in
    let there : get_or (ps ++ q ∷ []) k origin ≡ get_or ps (length ps - 1) origin = at_k ∙ ap (λ i. get_or ps i origin) here in
    let last : Follows w h (get_or ps (length ps - 1) origin) q = (∣ (d, small, step) ∣₁) in
    subst₂ (Follows w h) (sym there) (sym next) last)
    (cases_lt (suc k) (length ps))

pub framed_take : (w h : ℕ) (ps : List Point) (n : ℕ) → Framed w h ps → Framed w h (take n ps)
framed_take w h ps n framed k l =
    let m = length-take n ps in
    rw (get_or-take n ps k origin (omega arith)) (framed k (omega arith))

pub traced_take : (w h : ℕ) (ps : List Point) (n : ℕ) → Traced w h ps → Traced w h (take n ps)
traced_take w h ps n traced k l =
    let m = length-take n ps in
    subst₂ (Follows w h) (sym (get_or-take n ps k origin (omega arith))) (sym (get_or-take n ps (suc k) origin (omega arith))) (traced k (omega arith))

-- every outline keeps the rules
pub rules_of : (o : Outline) → Rules (plain o)
rules_of o =
    let n = length-take o.points.len o.points.at in
    record {
      wide = (o.wide, o.narrow);
      tall = (o.tall, o.low);
      count = (o.some, omega (arith, n, o.points.few));
      framed = o.framed;
      traced = o.traced;
    }
