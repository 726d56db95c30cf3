-- Fractions are ordered by their value.
use Rattle.std.proofs.Common.{◌≡◌, ℕ, ◌*◌, ◌<◌, ◌≤◌, Bool, true, false, sym, ◌∙◌, ⊎_elim, mul-le-mul_right, mul_right_comm, le_of_mul-le-mul_right, arith}
use Rattle.std.proofs.lemmas.Bool.{ltb-true, ltb-false, le-ltb, cases_Bool, both_ways}
use Rattle.measure.specs.declared.fraction.Fraction.{Fraction}
use Rattle.measure.specs.Fractions.{above}
use Rattle.measure.specs.Order.{Equal, TotalOrder}

-- a/x at most b/y, and that at most c/z
cross_through : (a x b y c z : ℕ) → 0 < y → a * y ≤ b * x → b * z ≤ c * y → a * z ≤ c * x
cross_through a x b y c z some first second =
    let one : a * y * z ≤ b * x * z = mul-le-mul_right z first in
    let two : b * z * x ≤ c * y * x = mul-le-mul_right x second in
    let all : a * z * y ≤ c * x * y = omega (arith, mul_right_comm a y z, mul_right_comm b x z, mul_right_comm c y x) in
    le_of_mul-le-mul_right all some

pub not_above_through : (a b c : Fraction) → above a b ≡ false → above b c ≡ false → above a c ≡ false
not_above_through a b c first second =
    let one = ltb-false (b.top * a.bottom) (a.top * b.bottom) first in
    let two = ltb-false (c.top * b.bottom) (b.top * c.bottom) second in
    le-ltb (c.top * a.bottom) (a.top * c.bottom) (cross_through a.top a.bottom b.top b.bottom c.top c.bottom b.some one two)

pub above_one_way : (a b : Fraction) → above a b ≡ true → above b a ≡ false
above_one_way a b h =
    let less = ltb-true (b.top * a.bottom) (a.top * b.bottom) h in
    le-ltb (a.top * b.bottom) (b.top * a.bottom) (omega arith)

same_test : (x y : Bool) → (x ≡ false → y ≡ false) → (y ≡ false → x ≡ false) → x ≡ y
same_test x y to back =
    ⊎_elim
    (λ t. ⊎_elim (λ u. t ∙ sym u) (λ f. absurd (both_ways x (back f) t)) (cases_Bool y))
    (λ f. f ∙ sym (to f))
    (cases_Bool x)

-- the values alone decide
equal_above : (a b c : Fraction) → Equal a b → (above a c ≡ above b c) × (above c a ≡ above c b)
equal_above a b c e =
    let ab : above a b ≡ false = le-ltb (b.top * a.bottom) (a.top * b.bottom) (omega arith) in
    let ba : above b a ≡ false = le-ltb (a.top * b.bottom) (b.top * a.bottom) (omega arith) in (
      same_test (above a c) (above b c) (not_above_through b a c ba) (not_above_through a b c ab),
      same_test (above c a) (above c b) (λ h. not_above_through c a b h ab) (λ h. not_above_through c b a h ba),
    )

pub total_order : TotalOrder
total_order = record {
  one_way = above_one_way;
  equal = λ a b one two. omega (arith, ltb-false (b.top * a.bottom) (a.top * b.bottom) one, ltb-false (a.top * b.bottom) (b.top * a.bottom) two);
  onward = not_above_through;
  by_value = equal_above;
}
