-- Line and pace are measures.
use Rattle.std.specs.Prelude.{◌≡◌, ℕ, ◌-◌, ◌<◌, true, cond, ◌&&◌, length, get_or, is_some, None, Option, nat_lt, slice_index_or}
use Rattle.std.proofs.Common.{⊎_elim, sym, ap, ◌∙◌, arith}
use Rattle.std.proofs.lemmas.Bool.{cases_Bool, lt-ltb, and_from, cond-true, cond-false}
use Rattle.outline.specs.declared.point.Point.{Point}
use Rattle.outline.specs.Held.{origin}
use Rattle.outline.specs.Plain.{Plain}
use Rattle.outline.specs.Rules.{Rules}
use Rattle.outline.proofs.Apart.{apart_most}
use Rattle.measure.specs.declared.fraction.Fraction.{Fraction}
use Rattle.measure.specs.Close.{Close}
use Rattle.measure.specs.Distances.{between, coincide, line, line_from, pace, pace_from}
use Rattle.measure.specs.Fractions.{fraction}
use Rattle.measure.specs.Measures.{Between, Answers}
use Rattle.measure.specs.Bounds.{InBounds, close, ends_in_bounds, line_in_bounds, pace_in_bounds}
use Rattle.measure.specs.Numbers.{fraction_some}

pub between_true : (n i k j : ℕ) → Between n i k j → between n i k j ≡ true
between_true n i k j b = and_from (nat_lt i k) (nat_lt k j && nat_lt j n) (lt-ltb i k b.0) (and_from (nat_lt k j) (nat_lt j n) (lt-ltb k j b.1) (lt-ltb j n b.2))

-- what is asked between the ends
guarded_some : (n i k j : ℕ) (x : Option Fraction) → Between n i k j → is_some x ≡ true → is_some (cond (between n i k j) x None) ≡ true
guarded_some n i k j x b some = ap is_some (cond-true (between n i k j) x None (between_true n i k j b)) ∙ some

bounded_some : (t b : ℕ) → InBounds t b → is_some (fraction t b) ≡ true
bounded_some t b h = ap is_some (sym (fraction_some t b h.0 h.1 h.2))

line_from_some : (u v p : Point) → Close u v → Close u p → is_some (line_from u v p) ≡ true
line_from_some u v p far near =
    ⊎_elim
    (λ t. ap is_some (cond-true (coincide u v) _ _ t) ∙ bounded_some _ 1 (ends_in_bounds u p near))
    (λ f. ap is_some (cond-false (coincide u v) _ _ f) ∙ bounded_some _ _ (line_in_bounds u v p far near f))
    (cases_Bool (coincide u v))

at_close : (p : Plain) → Rules p → (i j : ℕ) → i < length p.points → j < length p.points → Close (slice_index_or p.points i origin) (slice_index_or p.points j origin)
at_close p rules i j hi hj = close _ _ (apart_most p rules i j hi hj)

pub line_answers : Answers line
line_answers p rules i k j b =
    let u = get_or p.points i origin in
    let v = get_or p.points j origin in
    let q = get_or p.points k origin in
    guarded_some (length p.points) i k j (line_from u v q) b
    (line_from_some u v q (at_close p rules i j (omega arith) b.2) (at_close p rules i k (omega arith) (omega arith)))

pub pace_answers : Answers pace
pace_answers p rules i k j b =
    let ps = p.points in
    let few = rules.count.1 in
    let far = at_close p rules i j (omega arith) b.2 in
    let near = at_close p rules i k (omega arith) (omega arith) in
    guarded_some (length ps) i k j (pace_from (j - i) (k - i) (slice_index_or ps i origin) (slice_index_or ps j origin) (slice_index_or ps k origin)) b
    (bounded_some _ _ (pace_in_bounds (j - i) (k - i) (slice_index_or ps i origin) (slice_index_or ps j origin) (slice_index_or ps k origin) (omega arith) (omega arith) (omega arith) far near))
