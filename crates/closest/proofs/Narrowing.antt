-- A gap that narrows: which edges are still inside, and what is known when none is.
use Rattle.std.proofs.Common.{◌≡◌, ℕ, zero, suc, ◌+◌, ◌-◌, ◌<◌, ◌≤◌, true, false, ltb, List, [], ◌∷◌, length, get_or, is_some, Some, None, Option, sym, refl, ap, ◌∙◌, subst, ⊎_elim, arith}
use Rattle.coding.specs.Tables.{Table}
use Rattle.measure.proofs.Order.{above_one_way, not_above_through}
use Rattle.measure.proofs.Reached.{polygon_is_widest}
use Rattle.measure.proofs.Widening.{above_carries, not_above_itself, nought_not_above}
use Rattle.measure.specs.Deviation.{edge_deviation, polygon_deviation}
use Rattle.measure.specs.Fractions.{zero as nought, above}
use Rattle.measure.specs.Measures.{Strays}
use Rattle.measure.specs.declared.fraction.Fraction.{Fraction}
use Rattle.outline.specs.Polygon.{edges}
use Rattle.outline.specs.declared.point.Point.{Point}
use Rattle.std.proofs.lemmas.Bool.{and_from, and_parts, and_left, and_right, both_ways, cases_Bool, cases_lt, cond-true, ltb-true}
use Rattle.std.proofs.lemmas.Option.{cond_some, none-some}
use Rattle.std.specs.Option.{option_and}
use Rattle.std.specs.List.{AllByRecursion}
use Rattle.weighing.proofs.Costs.{polygon_length}
use Rattle.weighing.proofs.EdgeWeights.{deviation_has, price_edge}
use Rattle.weighing.specs.Edges.{edge_price}
use Rattle.closest.specs.Closest.{Fits, Smallest}
use Rattle.closest.specs.Gaps.{Reached, TooLow, past, inside, kept_inside, candidate, Next}
use Rattle.closest.specs.declared.gap.Gap.{Gap}

-- one fraction above another that is above a third
above_through : (a b c : Fraction) → above a b ≡ true → above b c ≡ true → above a c ≡ true
above_through a b c first second = above_carries b a c second (above_one_way a b first)

-- the sum of what a function gives below a number
abbrev sum_below : (ℕ → ℕ) → ℕ → ℕ
sum_below f zero = 0
sum_below f (suc n) = f n + sum_below f n

sum_grows : (f h : ℕ → ℕ) (n : ℕ) → ((k : ℕ) → k < n → f k ≤ h k) → sum_below f n ≤ sum_below h n
sum_grows f h zero le = omega arith
sum_grows f h (suc n) le = omega (arith, le n (omega arith), sum_grows f h n (λ k l. le k (omega arith)))

sum_falls : (f h : ℕ → ℕ) (n k : ℕ) → ((m : ℕ) → m < n → f m ≤ h m) → k < n → f k < h k → sum_below f n < sum_below h n
sum_falls f h zero k le l less = absurd (omega arith)
sum_falls f h (suc n) k le l less =
    ⊎_elim
    (λ low. let rest = sum_falls f h n k (λ m i. le m (omega arith)) low less in omega (arith, le n (omega arith)))
    (λ top.
    let e : k ≡ n = omega arith in
    let here : f n < h n = subst (λ m. f m < h m) e less in
    omega (arith, sum_grows f h n (λ m i. le m (omega arith))))
    (cases_lt k n)

-- one where there is a value
abbrev one : {X : Type 0} → Option X → ℕ
one (Some x) = 1
one None = 0

one_most : {X Y : Type 0} (a : Option X) (b : Option Y) → (is_some a ≡ true → is_some b ≡ true) → one a ≤ one b
one_most None b h = omega arith
one_most (Some x) (Some y) h = omega arith
one_most (Some x) None h = absurd (both_ways false refl (h refl))

-- how many numbers i, j below n have a value
abbrev pub how_many : {X : Type 0} → (ℕ → ℕ → Option X) → ℕ → ℕ
how_many f n = sum_below (λ i. sum_below (λ j. one (f i j)) n) n

pub fewer : {X : Type 0} (f h : ℕ → ℕ → Option X) (n i j : ℕ) → ((k m : ℕ) → is_some (f k m) ≡ true → is_some (h k m) ≡ true) → i < n → j < n → f i j ≡ None → (x : X) → h i j ≡ Some x → how_many f n < how_many h n
fewer f h n i j sub li lj gone x there =
    let fs : ℕ → ℕ → ℕ = λ k m. one (f k m) in
    let hs : ℕ → ℕ → ℕ = λ k m. one (h k m) in
    let le : (k m : ℕ) → fs k m ≤ hs k m = λ k m. one_most (f k m) (h k m) (sub k m) in
    let none : fs i j ≡ 0 = ap one gone in
    let some : hs i j ≡ 1 = ap one there in
    sum_falls (λ k. sum_below (fs k) n) (λ k. sum_below (hs k) n) n i
    (λ k l. sum_grows (fs k) (hs k) n (λ m q. le k m)) li
    (sum_falls (fs i) (hs i) n j (λ m q. le i m) lj (omega arith))

-- what a candidate is
kept_back : (gap : Gap) (o : Option Fraction) (d : Fraction) → kept_inside gap o ≡ Some d → (o ≡ Some d) × (inside gap d ≡ true)
kept_back gap (Some x) d e = let is = cond_some (inside gap x) x d e in (ap Some is.1, ap (inside gap) (sym is.1) ∙ is.0)
kept_back gap None d e = cc

other_back : {X Y : Type 0} (a : Option X) (b : Option Y) (y : Y) → option_and a b ≡ Some y → (is_some a ≡ true) × (b ≡ Some y)
other_back (Some u) b y e = (refl, e)
other_back None b y e = cc

other_made : {X Y : Type 0} (a : Option X) (b : Option Y) (y : Y) → is_some a ≡ true → b ≡ Some y → option_and a b ≡ Some y
other_made (Some u) b y h e = e
other_made None b y h e = cc

has_value : {X : Type 0} (o : Option X) → is_some o ≡ true → (x : X) × (o ≡ Some x)
has_value (Some x) h = (x, refl)
has_value None h = cc

past_on : (low : Option Fraction) (t d : Fraction) → past low t ≡ true → above d t ≡ true → past low d ≡ true
past_on None t d p h = refl
past_on (Some l) t d p h = above_through d t l h p

-- what holds of all edges of a list holds of the edge at a place
edge_at : (P : ℕ × ℕ → Type 0) (vs : List ℕ) → AllByRecursion P (edges vs) → (k : ℕ) → suc k < length vs → P (get_or vs k 0, get_or vs (suc k) 0)
edge_at P [] a k l = absurd (omega arith)
edge_at P (v ∷ []) a k l = absurd (omega arith)
edge_at P (v ∷ u ∷ vs) a zero l = a.0
edge_at P (v ∷ u ∷ vs) a (suc k) l = edge_at P (u ∷ vs) a.1 k (omega arith)

module _ (codes : Table) (strays : Strays) (ps : List Point) where
  abbrev dev : List ℕ → Fraction
  dev vs = polygon_deviation (edge_deviation strays ps) vs

  module _ (gap : Gap) (i j : ℕ) where
    pub candidate_is : (d : Fraction) → candidate codes strays ps gap i j ≡ Some d → (is_some (edge_price codes ps i j) ≡ true) × (edge_deviation strays ps i j ≡ Some d) × (inside gap d ≡ true)
    candidate_is d e =
        let parts = other_back (edge_price codes ps i j) (kept_inside gap (edge_deviation strays ps i j)) d e in
        let kept = kept_back gap (edge_deviation strays ps i j) d parts.1 in
        (parts.0, kept.0, kept.1)

    pub is_candidate : (d : Fraction) → is_some (edge_price codes ps i j) ≡ true → edge_deviation strays ps i j ≡ Some d → inside gap d ≡ true → candidate codes strays ps gap i j ≡ Some d
    is_candidate d p e h = other_made (edge_price codes ps i j) _ d p (ap (kept_inside gap) e ∙ cond-true (inside gap d) (Some d) None h)

  -- the edges that are no candidates by now are no candidates of a narrower gap
  still : (gap gap' : Gap) → ((d : Fraction) → inside gap' d ≡ true → inside gap d ≡ true) → (k m : ℕ) → is_some (candidate codes strays ps gap' k m) ≡ true → is_some (candidate codes strays ps gap k m) ≡ true
  still gap gap' sub k m h =
      let v = has_value (candidate codes strays ps gap' k m) h in
      let is = candidate_is gap' k m v.0 v.1 in
      ap is_some (is_candidate gap k m v.0 is.0 is.1 (sub v.0 is.2))

  gone : (gap gap' : Gap) (i j : ℕ) (t : Fraction) → candidate codes strays ps gap i j ≡ Some t → inside gap' t ≡ false → candidate codes strays ps gap' i j ≡ None
  gone gap gap' i j t e out = go (candidate codes strays ps gap' i j) refl
    where
      go : (o : Option Fraction) → candidate codes strays ps gap' i j ≡ o → candidate codes strays ps gap' i j ≡ None
      go None h = h
      go (Some d) h =
          let was = candidate_is gap i j t e in
          let is = candidate_is gap' i j d h in
          let both : Some d ≡ Some t = sym is.1 ∙ was.1 in
          let same : d ≡ t = cc in
          absurd (both_ways (inside gap' t) out (ap (inside gap') (sym same) ∙ is.2))

  narrower : (gap gap' : Gap) (i j : ℕ) (t : Fraction) → candidate codes strays ps gap i j ≡ Some t → ((d : Fraction) → inside gap' d ≡ true → inside gap d ≡ true) → inside gap' t ≡ false
      → how_many (candidate codes strays ps gap') (length ps) < how_many (candidate codes strays ps gap) (length ps)
  narrower gap gap' i j t e sub out =
      let edge = and_parts (ltb i j) (ltb j (length ps)) (price_edge codes ps i j (candidate_is gap i j t e).0) in
      let rises = ltb-true i j edge.0 in
      let last = ltb-true j (length ps) edge.1 in
      fewer (candidate codes strays ps gap') (candidate codes strays ps gap) (length ps) i j (still gap gap' sub) (omega arith) last (gone gap gap' i j t e out) t e

  abbrev raised : Gap → Fraction → Gap
  raised gap t = record { low = Some t; high = gap.high }

  abbrev lowered : Gap → Fraction → Gap
  lowered gap x = record { low = gap.low; high = x }

  -- a tolerance that is too low leaves fewer candidates
  pub raised_fewer : (gap : Gap) (t : Fraction) → Next codes strays ps gap (Some t) → how_many (candidate codes strays ps (raised gap t)) (length ps) < how_many (candidate codes strays ps gap) (length ps)
  raised_fewer gap t (i, j, e) =
      let at = and_parts (above gap.high t) (past gap.low t) (candidate_is gap i j t e).2 in
      narrower gap (raised gap t) i j t e
      (λ d h. let parts = and_parts (above gap.high d) (above d t) h in and_from _ _ parts.0 (past_on gap.low t d at.1 parts.1))
      (and_right (above gap.high t) (above t t) (not_above_itself t))

  -- and so does a deviation that is reached at one
  pub lowered_fewer : (gap : Gap) (t x : Fraction) → Next codes strays ps gap (Some t) → above x t ≡ false → how_many (candidate codes strays ps (lowered gap x)) (length ps) < how_many (candidate codes strays ps gap) (length ps)
  lowered_fewer gap t x (i, j, e) low =
      let at = and_parts (above gap.high t) (past gap.low t) (candidate_is gap i j t e).2 in
      let less : above x gap.high ≡ false = not_above_through x t gap.high low (above_one_way gap.high t at.0) in
      narrower gap (lowered gap x) i j t e
      (λ d h. let parts = and_parts (above x d) (past gap.low d) h in and_from _ _ (above_carries x gap.high d parts.0 less) parts.1)
      (and_left (above x t) (past gap.low t) low)

  module _ (budget : ℕ) where
    -- a low bound, where there is one, is too low
    abbrev pub KnownLow : Option Fraction → Type 0
    KnownLow None = Unit {0}
    KnownLow (Some t) = TooLow codes strays ps budget t

    past_low : (low : Option Fraction) → KnownLow low → (us : List ℕ) → Fits codes ps budget us → past low (dev us) ≡ true
    past_low None known us fits = refl
    past_low (Some t) known us fits = known us fits

    not_nought : (low : Option Fraction) → KnownLow low → (us : List ℕ) → Fits codes ps budget us → dev us ≡ nought → (x : Fraction) → past low x ≡ true
    not_nought None known us fits z x = refl
    not_nought (Some t) known us fits z x = absurd (both_ways (above (dev us) t) (ap (λ y. above y t) z ∙ nought_not_above t) (known us fits))

    module _ (gap : Gap) (high : Reached codes strays ps budget gap.high) (low : KnownLow gap.low) (none : Next codes strays ps gap None) where
      no_edge : (i j : ℕ) (x : Fraction) → is_some (edge_price codes ps i j) ≡ true → edge_deviation strays ps i j ≡ Some x → above gap.high x ≡ true → past gap.low x ≡ true → ⊥
      no_edge i j x p e above_x past_x =
          none-some x (sym (none i j) ∙ is_candidate gap i j x p e (and_from _ _ above_x past_x))

      -- a polygon with no edge has nought, as have then all polygons
      one_point : (us : List ℕ) → Fits codes ps budget us → length us ≤ 1 → above gap.high (dev us) ≡ true → ⊥
      one_point us fits short hi =
          let polygon = fits.0.0 in
          let only : length us - 1 ≡ 0 = omega arith in
          let n : suc (get_or us 0 0) ≡ length ps = subst (λ k. suc (get_or us k 0) ≡ length ps) only polygon.last in
          let first = polygon.first in
          let vs = high.0 in
          let most = polygon_length (length ps) vs high.1.0.0 in
          ⊎_elim
          (λ z. both_ways (above gap.high (dev us)) (ap (λ x. above x (dev us)) (sym high.2 ∙ z) ∙ nought_not_above (dev us)) hi)
          (λ s. let l = s.1 in absurd (omega arith))
          (polygon_is_widest (edge_deviation strays ps) vs).reached

      first_edge : (us : List ℕ) → Fits codes ps budget us → 1 < length us → above gap.high (dev us) ≡ true → dev us ≡ nought → ⊥
      first_edge us fits long hi z =
          let i = get_or us 0 0 in
          let j = get_or us 1 0 in
          let price = edge_at (λ e. is_some (edge_price codes ps e.0 e.1) ≡ true) us fits.0.1 0 long in
          let x = has_value (edge_deviation strays ps i j) (deviation_has strays ps i j ∙ price_edge codes ps i j price) in
          let low_x = (polygon_is_widest (edge_deviation strays ps) us).most 0 x.0 long x.1 in
          no_edge i j x.0 price x.1
          (⊎_elim (λ t. t) (λ f. absurd (both_ways (above gap.high (dev us)) (not_above_through gap.high x.0 (dev us) f low_x) hi)) (cases_Bool (above gap.high x.0)))
          (not_nought gap.low low us fits z x.0)

      none_lower : (us : List ℕ) → Fits codes ps budget us → above gap.high (dev us) ≡ true → ⊥
      none_lower us fits hi =
          ⊎_elim
          (λ z. ⊎_elim (λ long. first_edge us fits long hi z) (λ short. one_point us fits short hi) (cases_lt 1 (length us)))
          (λ s.
          let price = edge_at (λ e. is_some (edge_price codes ps e.0 e.1) ≡ true) us fits.0.1 s.0 s.1 in
          no_edge (get_or us s.0 0) (get_or us (suc s.0) 0) (dev us) price s.2 hi (past_low gap.low low us fits))
          (polygon_is_widest (edge_deviation strays ps) us).reached

      -- where no edge is left inside, the high bound is the smallest deviation
      pub smallest : Smallest codes strays ps budget gap.high
      smallest = record {
        reached = high;
        least = λ us fits. ⊎_elim (λ hi. absurd (none_lower us fits hi)) (λ e. e) (cases_Bool (above gap.high (dev us)));
      }
