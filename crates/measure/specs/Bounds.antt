-- How large the numbers of the measures grow between points of an outline.
use Rattle.std.specs.Prelude.{◌≡◌, ℕ, suc, ◌+◌, ◌*◌, ◌^◌, ◌<◌, ◌≤◌, false, List, length, ℤ, pos, negsuc, ◌-ℤ◌, ◌*ℤ◌, neg_ℤ, FitsSigned, ◌==◌, slice_index_or, unsigned_abs, refl}
use Rattle.std.proofs.Common.{⊎_elim, sym, ap, subst, ◌∙◌, mul-le-mul, arith, to_z, of_z}
use Rattle.std.specs.Int.{w32}
use Rattle.std.proofs.lemmas.Int.{to_z-of_z, to_z_pos, ints}
use Rattle.std.proofs.lemmas.Bool.{eqb-false, and_cases}
use Rattle.outline.specs.declared.outline.Outline.{Outline}
use Rattle.outline.specs.declared.point.Point.{Point}
use Rattle.outline.specs.Held.{origin}
use Rattle.outline.specs.Plain.{plain}
use Rattle.outline.proofs.Apart.{Near, apart_most}
use Rattle.outline.proofs.Kept.{rules_of}
use Rattle.measure.specs.Close.{Close}
use Rattle.measure.specs.Distances.{cols, rows, square, squared_length, cross, squared_lag, coincide}

negated : (n : ℕ) → unsigned_abs (neg_ℤ (pos n)) ≡ n
negated n = omega (arith, ints)

pub product_size : (a b : ℤ) → unsigned_abs (a *ℤ b) ≡ unsigned_abs a * unsigned_abs b
product_size (pos a) (pos b) = refl
product_size (pos a) (negsuc b) = negated (a * suc b)
product_size (negsuc a) (pos b) = negated (suc a * b)
product_size (negsuc a) (negsuc b) = refl

pub difference_size : (a b : ℤ) → unsigned_abs (a -ℤ b) ≤ unsigned_abs a + unsigned_abs b
difference_size a b = omega (arith, ints)

pub product_most : (m : ℕ) (a b : ℤ) → unsigned_abs a ≤ m → unsigned_abs b ≤ m → unsigned_abs (a *ℤ b) ≤ m * m
product_most m a b l k = omega (arith, product_size a b, mul-le-mul l k)

-- the difference of two products of numbers of at most 255
pub products_most : (a b c d : ℤ) → unsigned_abs a ≤ 255 → unsigned_abs b ≤ 255 → unsigned_abs c ≤ 255 → unsigned_abs d ≤ 255 → unsigned_abs (a *ℤ b -ℤ c *ℤ d) ≤ 130050
products_most a b c d ha hb hc hd =
    omega (arith, difference_size (a *ℤ b) (c *ℤ d), product_most 255 a b ha hb, product_most 255 c d hc hd)

pub square_most : (m : ℕ) (z : ℤ) → unsigned_abs z ≤ m → square z ≤ m * m
square_most m z l = mul-le-mul l l

pub small_fits : (z : ℤ) → unsigned_abs z ≤ 130050 → FitsSigned w32 z
small_fits z l = omega (arith, ints)

-- a small number comes back from its bits
pub back : (z : ℤ) → unsigned_abs z ≤ 130050 → to_z w32 (of_z w32 z) ≡ z
back z l = to_z-of_z w32 z (small_fits z l)

pub close : (u v : Point) → Near 255 u v → Close u v
close u v near = (omega (arith, ints), omega (arith, ints))

-- numbers that make a fraction
abbrev pub InBounds : ℕ → ℕ → Type 0
InBounds t b = (t < 2 ^ 40) × (1 ≤ b) × (b ≤ 2 ^ 20)

pub length_most : (m : ℕ) (x y : ℤ) → unsigned_abs x ≤ m → unsigned_abs y ≤ m → squared_length x y ≤ m * m + m * m
length_most m x y hx hy = omega (arith, square_most m x hx, square_most m y hy)

square_some : (z : ℤ) → 1 ≤ unsigned_abs z → 1 ≤ square z
square_some z l = mul-le-mul l l

-- points that differ are some way apart
pub length_some : (u v : Point) → coincide u v ≡ false → 1 ≤ squared_length (cols u v) (rows u v)
length_some u v differ =
    ⊎_elim
    (λ c. let x : 1 ≤ unsigned_abs (cols u v) = omega (arith, ints, eqb-false u.col v.col c) in omega (arith, square_some (cols u v) x))
    (λ r. let y : 1 ≤ unsigned_abs (rows u v) = omega (arith, ints, eqb-false u.row v.row r) in omega (arith, square_some (rows u v) y))
    (and_cases (u.col == v.col) (u.row == v.row) differ)

pub ends_in_bounds : (u p : Point) → Close u p → InBounds (squared_length (cols u p) (rows u p)) 1
ends_in_bounds u p near = let most = length_most 255 (cols u p) (rows u p) near.0 near.1 in (omega arith, omega arith, omega arith)

pub line_in_bounds : (u v p : Point) → Close u v → Close u p → coincide u v ≡ false → InBounds (square (cross u v p)) (squared_length (cols u v) (rows u v))
line_in_bounds u v p far near differ =
    let c = square_most 130050 (cross u v p) (products_most (cols u v) (rows u p) (rows u v) (cols u p) far.0 near.1 far.1 near.0) in
    let most = length_most 255 (cols u v) (rows u v) far.0 far.1 in
    (omega arith, length_some u v differ, omega arith)

pub pace_in_bounds : (n m : ℕ) (u v p : Point) → 1 ≤ n → n ≤ 255 → m ≤ 255 → Close u v → Close u p
    → InBounds (squared_lag n m u v p) (n * n)
pace_in_bounds n m u v p some hn hm far near =
    let x = products_most (pos n) (cols u p) (pos m) (cols u v) hn near.0 hm far.0 in
    let y = products_most (pos n) (rows u p) (pos m) (rows u v) hn near.1 hm far.1 in
    let most = length_most 130050 (pos n *ℤ cols u p -ℤ pos m *ℤ cols u v) (pos n *ℤ rows u p -ℤ pos m *ℤ rows u v) x y in
    (omega arith, mul-le-mul some some, omega (arith, mul-le-mul hn hn))

-- what a product of parts and offsets is when it comes back from its bits
pub lag_is : (n m : ℕ) (a b x : ℤ) (a' b' : ℤ) → n ≤ 255 → m ≤ 255 → a ≡ a' → b ≡ b' → unsigned_abs a' ≤ 255 → unsigned_abs b' ≤ 255
    → x ≡ to_z w32 n *ℤ to_z w32 (of_z w32 a) -ℤ to_z w32 m *ℤ to_z w32 (of_z w32 b) → to_z w32 (of_z w32 x) ≡ pos n *ℤ a' -ℤ pos m *ℤ b'
lag_is n m a b x a' b' hn hm ea eb ha hb e =
    let one : to_z w32 n ≡ pos n = to_z_pos w32 n (omega arith) in
    let two : to_z w32 m ≡ pos m = to_z_pos w32 m (omega arith) in
    let three : to_z w32 (of_z w32 a) ≡ a' = ap (λ z. to_z w32 (of_z w32 z)) ea ∙ back a' (omega arith) in
    let four : to_z w32 (of_z w32 b) ≡ b' = ap (λ z. to_z w32 (of_z w32 z)) eb ∙ back b' (omega arith) in
    let is : x ≡ pos n *ℤ a' -ℤ pos m *ℤ b' = e ∙ simp (one, two, three, four) in
    ap (λ z. to_z w32 (of_z w32 z)) is ∙ back (pos n *ℤ a' -ℤ pos m *ℤ b') (products_most (pos n) a' (pos m) b' hn ha hm hb)

-- any two points of an outline are close
pub points_close : (o : Outline) (ps : List Point) → ps ≡ (plain o).points → (i j : ℕ) → i < length ps → j < length ps → Close (slice_index_or ps i origin) (slice_index_or ps j origin)
points_close o ps e i j hi hj =
    let P : List Point → Type 0 = λ qs. i < length qs → j < length qs → Close (slice_index_or qs i origin) (slice_index_or qs j origin) in
    subst P (sym e) (λ li lj. close _ _ (apart_most (plain o) (rules_of o) i j li lj)) hi hj

-- an outline has at most 256 points
pub points_few : (o : Outline) (ps : List Point) → ps ≡ (plain o).points → length ps ≤ 256
points_few o ps e = let n = ap length e in omega (arith, (rules_of o).count.1)

-- parts and offsets stay small as they pass through their bits
pub lag_small : (n m : ℕ) (a b a' b' : ℤ) → n ≤ 255 → m ≤ 255 → a ≡ a' → b ≡ b' → unsigned_abs a' ≤ 255 → unsigned_abs b' ≤ 255
    → (unsigned_abs (to_z w32 n) ≤ 255) × ((unsigned_abs (to_z w32 (of_z w32 a)) ≤ 255) × ((unsigned_abs (to_z w32 m) ≤ 255) × (unsigned_abs (to_z w32 (of_z w32 b)) ≤ 255)))
lag_small n m a b a' b' hn hm ea eb ha hb =
    let one = ap unsigned_abs (to_z_pos w32 n (omega arith)) in
    let two = ap unsigned_abs (ap (λ z. to_z w32 (of_z w32 z)) ea ∙ back a' (omega arith)) in
    let three = ap unsigned_abs (to_z_pos w32 m (omega arith)) in
    let four = ap unsigned_abs (ap (λ z. to_z w32 (of_z w32 z)) eb ∙ back b' (omega arith)) in
    (omega (arith, one), (omega (arith, two), (omega (arith, three), omega (arith, four))))
