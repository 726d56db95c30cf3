-- The cost of a usable polygon is its bits and its deviation.
use Rattle.std.proofs.Common.{◌≡◌, ℕ, zero, suc, ◌+◌, ◌-◌, ◌*◌, ◌<◌, ◌≤◌, min, true, false, List, [], ◌∷◌, length, get_or, is_some, Some, None, fold, Option, unwrap_or, sym, refl, ap, ◌∙◌, arith}
use Rattle.std.proofs.lemmas.Bool.{both_ways}
use Rattle.std.specs.List.{AllByRecursion}
use Rattle.outline.specs.declared.point.Point.{Point}
use Rattle.outline.specs.Polygon.{Polygon, edges}
use Rattle.cost.specs.Bits.{bits_cost, of_count}
use Rattle.cost.specs.Cost.{CostOf}
use Rattle.cost.specs.TwoPart.{both, two_part}
use Rattle.cost.specs.declared.bits.Bits.{Bits}
use Rattle.cost.specs.declared.price.Price.{Price}
use Rattle.cost.specs.declared.two_part.TwoPart.{TwoPart}
use Rattle.coding.specs.Tables.{Table, Codes}
use Rattle.measure.specs.declared.fraction.Fraction.{Fraction}
use Rattle.measure.specs.Deviation.{edge_deviation, polygon_deviation}
use Rattle.measure.specs.Fractions.{zero as nought, wider, widened}
use Rattle.measure.specs.Measures.{Strays}
use Rattle.weighing.specs.Deviations.{deviation_cost, of_value}
use Rattle.weighing.specs.Edges.{edge_price, polygon_bits}
use Rattle.weighing.specs.Weighers.{priced_weight, straying_weight}
use Rattle.weighing.specs.Weights.{Usable, joined, polygon_cost}
use Rattle.weighing.specs.declared.deviation.Deviation.{Deviation}
use Rattle.weighing.proofs.EdgeWeights.{edge_price_sized, priced_is, straying_is}

-- a list of numbers has one edge less than numbers
pub edges_count : (vs : List ℕ) → 0 < length vs → suc (length (edges vs)) ≡ length vs
edges_count [] h = absurd (omega arith)
edges_count (i ∷ []) h = refl
edges_count (i ∷ j ∷ vs) h = ap suc (edges_count (j ∷ vs) (omega arith))

rises : (n : ℕ) (vs : List ℕ) → Polygon n vs → (k : ℕ) → k < length vs → k ≤ get_or vs k 0
rises n vs p zero h = omega arith
rises n vs p (suc k) h = let below = rises n vs p k (omega arith) in omega (arith, p.rising k h)

-- a polygon has at most as many vertices as there are points
pub polygon_length : (n : ℕ) (vs : List ℕ) → Polygon n vs → length vs ≤ n
polygon_length n vs p = let some = p.some in let last = p.last in omega (arith, rises n vs p (length vs - 1) (omega arith))

-- bits and deviation side by side
abbrev pub priced_cost : CostOf (TwoPart Bits Deviation) (Price × Fraction)
priced_cost = two_part bits_cost deviation_cost

abbrev at : ℕ → Fraction → TwoPart Bits Deviation
at n d = both (of_count n) (of_value d)

one_edge : (c : ℕ) (a : Fraction) (w : Option (Price × Fraction)) (n : Option ℕ) (d : Option Fraction) → ((v : Price × Fraction) → w ≡ Some v → (n ≡ Some v.0.bits) × (d ≡ Some v.1)) → is_some w ≡ true → c + 32 ≤ 65535
    → (joined priced_cost (at c a) w ≡ at (c + unwrap_or n 0) (widened a d)) × (unwrap_or n 0 ≤ 32)
one_edge c a (Some v) n d reads has room =
    let parts = reads v refl in
    let bits : unwrap_or n 0 ≡ v.0.bits = ap (λ (o : Option ℕ). unwrap_or o 0) parts.0 in
    let most = v.0.few in
    let sum : min (c + v.0.bits) 65535 ≡ c + unwrap_or n 0 = omega arith in
    (ap (λ m. at m (wider a v.1)) sum ∙ ap (λ (o : Option Fraction). at (c + unwrap_or n 0) (widened a o)) (sym parts.1), omega arith)
one_edge c a None n d reads has room = absurd (both_ways false refl has)

module _ (weight : ℕ → ℕ → Option (Price × Fraction)) (price : ℕ → ℕ → Option ℕ) (dev : ℕ → ℕ → Option Fraction) (reads : (i j : ℕ) (v : Price × Fraction) → weight i j ≡ Some v → (price i j ≡ Some v.0.bits) × (dev i j ≡ Some v.1)) where
  along : (c : ℕ) (a : Fraction) (es : List (ℕ × ℕ)) → AllByRecursion (λ e. is_some (weight e.0 e.1) ≡ true) es → c + 32 * length es ≤ 65535
      → fold (λ s e. joined priced_cost s (weight e.0 e.1)) (at c a) es ≡ at (fold (λ m e. m + unwrap_or (price e.0 e.1) 0) c es) (fold (λ old e. widened old (dev e.0 e.1)) a es)
  along c a [] has room = refl
  along c a (e ∷ es) has room =
      let i = e.0 in
      let j = e.1 in
      let step = one_edge c a (weight i j) (price i j) (dev i j) (reads i j) has.0 (omega arith) in
      let few = step.1 in
      ap (λ s. fold (λ s e. joined priced_cost s (weight e.0 e.1)) s es) step.0 ∙ along (c + unwrap_or (price i j) 0) (widened a (dev i j)) es has.1 (omega arith)

-- the cost of a polygon that is usable at a tolerance
pub priced_polygon : (codes : Table) (strays : Strays) (t : Fraction) (ps : List Point) (vs : List ℕ) → length ps ≤ 256 → Usable (priced_weight codes strays t ps) (length ps) vs
    → polygon_cost priced_cost (priced_weight codes strays t ps) vs ≡ both (of_count (polygon_bits (edge_price codes ps) vs)) (of_value (polygon_deviation (edge_deviation strays ps) vs))
priced_polygon codes strays t ps vs few usable =
    let short = polygon_length (length ps) vs usable.0 in
    let count = edges_count vs usable.0.some in
    along (priced_weight codes strays t ps) (edge_price codes ps) (edge_deviation strays ps) (λ i j v e. let is = priced_is codes strays ps i j t v e in (is.0, is.1)) 0 nought (edges vs) usable.1 (omega arith)

price_few : (o : Option ℕ) → ((n : ℕ) → o ≡ Some n → n ≤ 32) → unwrap_or o 0 ≤ 32
price_few (Some n) few = few n refl
price_few None few = omega arith

sum_few : (price : ℕ → ℕ → Option ℕ) → ((i j n : ℕ) → price i j ≡ Some n → n ≤ 32) → (c : ℕ) (es : List (ℕ × ℕ)) → fold (λ m e. m + unwrap_or (price e.0 e.1) 0) c es ≤ c + 32 * length es
sum_few price few c [] = omega arith
sum_few price few c (e ∷ es) =
    let here = price_few (price e.0 e.1) (few e.0 e.1) in
    omega (arith, sum_few price few (c + unwrap_or (price e.0 e.1) 0) es)

-- a polygon of at most 256 points has at most 255 times 32 bits
pub polygon_bits_few : (codes : Table) → Codes codes → (ps : List Point) (vs : List ℕ) → length ps ≤ 256 → Polygon (length ps) vs → polygon_bits (edge_price codes ps) vs ≤ 8160
polygon_bits_few codes laws ps vs few polygon =
    let short = polygon_length (length ps) vs polygon in
    let count = edges_count vs polygon.some in
    omega (arith, sum_few (edge_price codes ps) (λ i j n e. (edge_price_sized codes laws ps i j n e).1) 0 (edges vs))

one_straying : (a : Fraction) (w d : Option Fraction) → ((v : Fraction) → w ≡ Some v → d ≡ Some v) → is_some w ≡ true → joined deviation_cost (of_value a) w ≡ of_value (widened a d)
one_straying a (Some v) d reads has = ap (λ (o : Option Fraction). of_value (widened a o)) (sym (reads v refl))
one_straying a None d reads has = absurd (both_ways false refl has)

module _ (weight dev : ℕ → ℕ → Option Fraction) (reads : (i j : ℕ) (v : Fraction) → weight i j ≡ Some v → dev i j ≡ Some v) where
  straying_along : (a : Fraction) (es : List (ℕ × ℕ)) → AllByRecursion (λ e. is_some (weight e.0 e.1) ≡ true) es
      → fold (λ s e. joined deviation_cost s (weight e.0 e.1)) (of_value a) es ≡ of_value (fold (λ old e. widened old (dev e.0 e.1)) a es)
  straying_along a [] has = refl
  straying_along a (e ∷ es) has =
      let i = e.0 in
      let j = e.1 in
      ap (λ s. fold (λ s e. joined deviation_cost s (weight e.0 e.1)) s es) (one_straying a (weight i j) (dev i j) (reads i j) has.0) ∙ straying_along (widened a (dev i j)) es has.1

-- the cost of a polygon whose edges have codes
pub straying_polygon : (codes : Table) (strays : Strays) (ps : List Point) (n : ℕ) (vs : List ℕ) → Usable (straying_weight codes strays ps) n vs
    → polygon_cost deviation_cost (straying_weight codes strays ps) vs ≡ of_value (polygon_deviation (edge_deviation strays ps) vs)
straying_polygon codes strays ps n vs usable =
    straying_along (straying_weight codes strays ps) (edge_deviation strays ps) (straying_is codes strays ps) nought (edges vs) usable.1
