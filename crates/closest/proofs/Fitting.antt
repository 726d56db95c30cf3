-- What the cost at a tolerance says of the polygons that fit a budget.
use Rattle.std.proofs.Common.{◌≡◌, ℕ, ◌-◌, ◌*◌, ◌^◌, ◌<◌, ◌≤◌, true, false, leb, List, length, Some, None, Option, sym, ap, ◌∙◌, subst, ⊎_elim, mul-le-mul_left, arith}
use Rattle.coding.specs.Tables.{Table, Codes}
use Rattle.cost.specs.Bits.{of_count}
use Rattle.cost.specs.TwoPart.{both}
use Rattle.cost.specs.declared.bits.Bits.{Bits}
use Rattle.cost.specs.declared.two_part.TwoPart.{TwoPart}
use Rattle.graph.specs.Rows.{Filled}
use Rattle.graph.specs.declared.Row.{Row}
use Rattle.measure.specs.Numbers.{fraction_is}
use Rattle.measure.specs.Deviation.{edge_deviation, polygon_deviation}
use Rattle.measure.specs.Fractions.{above, fraction, largest}
use Rattle.measure.specs.Measures.{Strays}
use Rattle.measure.specs.declared.fraction.Fraction.{Fraction}
use Rattle.outline.specs.declared.point.Point.{Point}
use Rattle.search.specs.Best.{Best, LeastCost, NoneUsable}
use Rattle.search.specs.Cheapest.{priced_cost}
use Rattle.std.proofs.lemmas.Bool.{cases_Bool, cond_both, le-ltb, leb-true, leb-false, ltb-false, or_parts}
use Rattle.weighing.proofs.Costs.{priced_polygon}
use Rattle.weighing.proofs.Usable.{priced_usable, usable_priced}
use Rattle.weighing.specs.Deviations.{of_value}
use Rattle.weighing.specs.Edges.{edge_price, polygon_bits}
use Rattle.weighing.specs.Weighers.{priced_weight}
use Rattle.weighing.specs.declared.deviation.Deviation.{Deviation}
use Rattle.closest.specs.Closest.{Writes, WritesNone, AllOver, LeftAtLargest}
use Rattle.closest.specs.Gaps.{affordable, Reached, TooLow, Tried}

-- no fraction is above the largest
pub largest_covers : (x : Fraction) → above x largest ≡ false
largest_covers x =
    let some = x.some in
    let small = x.small in
    le-ltb (largest.top * x.bottom) (x.top * 1) (omega (arith, mul-le-mul_left (2 ^ 40 - 1) some))

-- the numbers of a fraction make it again
pub made_again : (t : Fraction) (a b : ℕ) → a ≡ t.top → b ≡ t.bottom → fraction a b ≡ Some t
made_again t a b tops bottoms = ap (λ x. fraction x b) tops ∙ ap (fraction t.top) bottoms ∙ sym (fraction_is t)

module _ (codes : Table) (strays : Strays) (ps : List Point) (few : length ps ≤ 256) (laws : Codes codes) where
  abbrev dev : List ℕ → Fraction
  dev vs = polygon_deviation (edge_deviation strays ps) vs

  abbrev bits : List ℕ → ℕ
  bits vs = polygon_bits (edge_price codes ps) vs

  module _ (t : Fraction) where
    -- a best polygon can be written, is within the tolerance, and has the bits and the deviation of its cost
    pub best_parts : (vs : List ℕ) (c : TwoPart Bits Deviation) → Best priced_cost (priced_weight codes strays t ps) (length ps) vs c
        → Writes codes ps vs × (above (dev vs) t ≡ false) × (bits vs ≡ c.first.count) × (dev vs ≡ c.second.value)
    best_parts vs c b =
        let u = priced_usable codes strays ps (length ps) vs laws t b.usable in
        let e : both (of_count (bits vs)) (of_value (dev vs)) ≡ c = sym (priced_polygon codes strays t ps vs few b.usable) ∙ b.costs in
        (u.0, u.1, ap (λ (x : TwoPart Bits Deviation). x.first.count) e, ap (λ (x : TwoPart Bits Deviation). x.second.value) e)

    -- and no polygon that can be written within the tolerance has fewer bits
    pub best_fewest : (vs : List ℕ) (c : TwoPart Bits Deviation) → Best priced_cost (priced_weight codes strays t ps) (length ps) vs c
        → (us : List ℕ) → Writes codes ps us → above (dev us) t ≡ false → c.first.count ≤ bits us
    best_fewest vs c b us w low =
        let u = usable_priced codes strays ps (length ps) us laws t w low in
        let h : priced_cost.above c (both (of_count (bits us)) (of_value (dev us))) ≡ false =
        subst (λ x. priced_cost.above c x ≡ false) (priced_polygon codes strays t ps us few u) (b.least us u) in
        ltb-false (bits us) c.first.count (or_parts _ _ h).0

    module _ (budget : ℕ) where
      tried_fits : (c : TwoPart Bits Deviation) → LeastCost priced_cost (priced_weight codes strays t ps) (length ps) (Some c) → c.first.count ≤ budget → Tried codes strays ps budget t (Some c.second.value)
      tried_fits c (vs, b) cheap =
          let is = best_parts vs c b in
          let same = is.2 in
          ((vs, (is.0, omega arith), is.3), ap (λ x. above x t) (sym is.3) ∙ is.1)

      too_dear : (c : TwoPart Bits Deviation) → LeastCost priced_cost (priced_weight codes strays t ps) (length ps) (Some c) → budget < c.first.count → TooLow codes strays ps budget t
      too_dear c (vs, b) dear us fits =
          ⊎_elim (λ e. e) (λ low. absurd (omega (arith, best_fewest vs c b us fits.0 low, fits.1))) (cases_Bool (above (dev us) t))

      none_there : NoneUsable (priced_weight codes strays t ps) (length ps) → TooLow codes strays ps budget t
      none_there none us fits =
          ⊎_elim (λ e. e) (λ low. absurd (none us (usable_priced codes strays ps (length ps) us laws t fits.0 low))) (cases_Bool (above (dev us) t))

      pub tried : (o : Option (TwoPart Bits Deviation)) (r : Option Fraction) → r ≡ affordable budget o → LeastCost priced_cost (priced_weight codes strays t ps) (length ps) o → Tried codes strays ps budget t r
      tried None r e h = subst (Tried codes strays ps budget t) (sym e) (none_there h)
      tried (Some c) r e h =
          subst (Tried codes strays ps budget t) (sym e)
          (cond_both (leb c.first.count budget) (Some c.second.value) None (Tried codes strays ps budget t)
          (λ yes. tried_fits c h (leb-true c.first.count budget yes))
          (λ no. too_dear c h (leb-false c.first.count budget no)))

  -- at the largest tolerance every polygon that can be written is usable
  module _ (t : Fraction) (most : t ≡ largest) (o : Option (TwoPart Bits Deviation)) (best : LeastCost priced_cost (priced_weight codes strays t ps) (length ps) o) where
    covers : (x : Fraction) → above x t ≡ false
    covers x = ap (above x) most ∙ largest_covers x

    pub left_at_largest : (rows rows_after : List (Row (TwoPart Bits Deviation))) → Filled priced_cost (priced_weight codes strays t ps) (length ps) rows rows_after true → LeftAtLargest codes strays ps rows rows_after
    left_at_largest rows rows_after h = subst (λ x. Filled priced_cost (priced_weight codes strays x ps) (length ps) rows rows_after true) most h

    pub writes_none : o ≡ None → WritesNone codes ps
    writes_none e us w = subst (LeastCost priced_cost (priced_weight codes strays t ps) (length ps)) e best us (usable_priced codes strays ps (length ps) us laws t w (covers (dev us)))

    pub all_over : (budget : ℕ) (c : TwoPart Bits Deviation) → o ≡ Some c → budget < c.first.count → AllOver codes ps budget
    all_over budget c e dear =
        let b = subst (LeastCost priced_cost (priced_weight codes strays t ps) (length ps)) e best in (
          (b.0, (best_parts t b.0 c b.1).0),
          (λ us w. let fewest = best_fewest t b.0 c b.1 us w (covers (dev us)) in omega arith),
        )

    pub reached_first : (budget : ℕ) (c : TwoPart Bits Deviation) → o ≡ Some c → c.first.count ≤ budget → Reached codes strays ps budget c.second.value
    reached_first budget c e cheap = (tried_fits t budget c (subst (LeastCost priced_cost (priced_weight codes strays t ps) (length ps)) e best) cheap).0
