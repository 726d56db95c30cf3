-- What the weight of an edge says of its price and its deviation.
use Rattle.std.proofs.Common.{◌≡◌, ℕ, ◌<◌, ◌≤◌, Bool, true, false, cond, not, ◌&&◌, ltb, List, length, is_some, Some, None, Option, sym, refl, ap, ◌∙◌, subst, ⊎_elim}
use native.Mathlib.Decide.{dec_le}
use Rattle.std.proofs.lemmas.Bool.{and_from, both_ways, cases_Bool, cond-true, lt-ltb, not-true}
use Rattle.std.proofs.lemmas.Option.{cond_some, none-some}
use Rattle.std.specs.Option.{option_and, option_flatten, option_map, option_zip}
use Rattle.outline.specs.declared.point.Point.{Point}
use Rattle.cost.proofs.PriceLaws.{priced_some}
use Rattle.cost.specs.Prices.{priced}
use Rattle.cost.specs.declared.price.Price.{Price}
use Rattle.coding.specs.Tables.{Table, Codes, price_of}
use Rattle.measure.specs.declared.fraction.Fraction.{Fraction}
use Rattle.measure.specs.Deviation.{edge_deviation, kept_within, within}
use Rattle.measure.specs.Fractions.{above}
use Rattle.measure.specs.Measures.{Strays}
use Rattle.weighing.specs.Edges.{displacement, edge_price}
use Rattle.weighing.specs.Weighers.{priced_weight, straying_weight}
use Rattle.weighing.proofs.EdgeLaws.{no_price, straying_edges}

-- the price of an edge is that of its displacement
pub edge_price_at : (codes : Table) (ps : List Point) (i j : ℕ) → i < j → j < length ps → edge_price codes ps i j ≡ price_of (codes (displacement ps i j).0 (displacement ps i j).1)
edge_price_at codes ps i j rises inside = cond-true (ltb i j && ltb j (length ps)) _ None (and_from _ _ (lt-ltb i j rises) (lt-ltb j (length ps) inside))

price_sized : (o : Option (List Bool)) → ((code : List Bool) → o ≡ Some code → (1 ≤ length code) × (length code ≤ 32)) → (n : ℕ) → price_of o ≡ Some n → (1 ≤ n) × (n ≤ 32)
price_sized (Some code) sized n e = let same : length code ≡ n = cc in subst (λ m. (1 ≤ m) × (m ≤ 32)) same (sized code refl)
price_sized None sized n e = absurd (none-some n e)

-- a price is 1 to 32
pub edge_price_sized : (codes : Table) → Codes codes → (ps : List Point) (i j n : ℕ) → edge_price codes ps i j ≡ Some n → (1 ≤ n) × (n ≤ 32)
edge_price_sized codes laws ps i j n e =
    let test = ltb i j && ltb j (length ps) in
    let d = displacement ps i j in
    ⊎_elim
    (λ t. price_sized (codes d.0 d.1) (laws.sized d.0 d.1) n (sym (cond-true test _ None t) ∙ e))
    (λ f. absurd (none-some n (sym (no_price codes ps i j f) ∙ e)))
    (cases_Bool test)

priced_back : (n : ℕ) (p : Price) → priced n ≡ Some p → n ≡ p.bits
priced_back n p e = go (dec_le 1 n) (dec_le n 32) e
  where
    go : (a : Dec (1 ≤ n)) (b : Dec (n ≤ 32)) → (elim a as (λ _. Option Price) [ yes some ↦ elim b as (λ _. Option Price) [ yes few ↦ Some (record { bits = n; some = some; few = few }) | no _ ↦ None ] | no _ ↦ None ]) ≡ Some p → n ≡ p.bits
    go (yes a) (yes b) h = let q : Price = record { bits = n; some = a; few = b } in let same : q ≡ p = cc in ap (λ (x : Price). x.bits) same
    go (yes a) (no b) h = absurd (none-some p h)
    go (no a) b h = absurd (none-some p h)

bits_back : (o : Option ℕ) (p : Price) → option_flatten (option_map priced o) ≡ Some p → o ≡ Some p.bits
bits_back (Some n) p e = ap Some (priced_back n p e)
bits_back None p e = absurd (none-some p e)

bits_have : (o : Option ℕ) → ((n : ℕ) → o ≡ Some n → (1 ≤ n) × (n ≤ 32)) → is_some (option_flatten (option_map priced o)) ≡ is_some o
bits_have (Some n) sized =
    let h = sized n refl in
    let p : Price = record { bits = n; some = h.0; few = h.1 } in
    ap is_some (sym (priced_some n p refl))
bits_have None sized = refl

kept_back : (t : Fraction) (o : Option Fraction) (d : Fraction) → kept_within t o ≡ Some d → (o ≡ Some d) × (above d t ≡ false)
kept_back t (Some x) d e =
    let parts = cond_some (not (above x t)) x d e in
    (ap Some parts.1, ap (λ y. above y t) (sym parts.1) ∙ not-true (above x t) parts.0)
kept_back t None d e = absurd (none-some d e)

cond_has : {X : Type 0} (b : Bool) (x : X) → is_some (cond b (Some x) None) ≡ b
cond_has true x = refl
cond_has false x = refl

kept_has : (t : Fraction) (o : Option Fraction) → is_some (kept_within t o) ≡ within t o
kept_has t (Some x) = cond_has (not (above x t)) x
kept_has t None = refl

zipped_back : {X Y : Type 0} (a : Option X) (b : Option Y) (q : X × Y) → option_zip a b ≡ Some q → (a ≡ Some q.0) × (b ≡ Some q.1)
zipped_back {X = X} {Y = Y} (Some u) (Some v) q e =
    let pair : X × Y = (u, v) in
    let same : pair ≡ q = cc in
    (ap (λ (p : X × Y). Some p.0) same, ap (λ (p : X × Y). Some p.1) same)
zipped_back (Some u) None q e = absurd (none-some q e)
zipped_back None b q e = absurd (none-some q e)

zipped_has : {X Y : Type 0} (a : Option X) (b : Option Y) → is_some (option_zip a b) ≡ (is_some a && is_some b)
zipped_has (Some u) (Some v) = refl
zipped_has (Some u) None = refl
zipped_has None b = refl

other_back : {X Y : Type 0} (a : Option X) (b : Option Y) (y : Y) → option_and a b ≡ Some y → b ≡ Some y
other_back (Some u) b y e = e
other_back None b y e = absurd (none-some y e)

other_has : {X Y : Type 0} (a : Option X) (b : Option Y) → is_some b ≡ true → is_some (option_and a b) ≡ is_some a
other_has (Some u) b h = h
other_has None b h = refl

-- every edge has a deviation
pub deviation_has : (strays : Strays) (ps : List Point) (i j : ℕ) → is_some (edge_deviation strays ps i j) ≡ (ltb i j && ltb j (length ps))
deviation_has strays ps i j = cond_has (ltb i j && ltb j (length ps)) _

-- what has a price is an edge
pub price_edge : (codes : Table) (ps : List Point) (i j : ℕ) → is_some (edge_price codes ps i j) ≡ true → (ltb i j && ltb j (length ps)) ≡ true
price_edge codes ps i j has =
    ⊎_elim (λ t. t) (λ f. absurd (both_ways _ (ap is_some (no_price codes ps i j f)) has)) (cases_Bool (ltb i j && ltb j (length ps)))

module _ (codes : Table) (strays : Strays) (ps : List Point) (i j : ℕ) where
  -- a straying weight is the deviation
  pub straying_is : (d : Fraction) → straying_weight codes strays ps i j ≡ Some d → edge_deviation strays ps i j ≡ Some d
  straying_is d e = other_back (edge_price codes ps i j) (edge_deviation strays ps i j) d e

  -- an edge has a straying weight exactly where it has a price
  pub straying_has : is_some (straying_weight codes strays ps i j) ≡ is_some (edge_price codes ps i j)
  straying_has =
      ⊎_elim
      (λ t. other_has (edge_price codes ps i j) (edge_deviation strays ps i j) (deviation_has strays ps i j ∙ t))
      (λ f. ap is_some (straying_edges codes strays ps i j f) ∙ sym (ap is_some (no_price codes ps i j f)))
      (cases_Bool (ltb i j && ltb j (length ps)))

  module _ (t : Fraction) where
    -- a priced weight is the price and the deviation, which is not above the tolerance
    pub priced_is : (w : Price × Fraction) → priced_weight codes strays t ps i j ≡ Some w → (edge_price codes ps i j ≡ Some w.0.bits) × (edge_deviation strays ps i j ≡ Some w.1) × (above w.1 t ≡ false)
    priced_is w e =
        let parts = zipped_back (option_flatten (option_map priced (edge_price codes ps i j))) (kept_within t (edge_deviation strays ps i j)) w e in
        let kept = kept_back t (edge_deviation strays ps i j) w.1 parts.1 in
        (bits_back (edge_price codes ps i j) w.0 parts.0, kept.0, kept.1)

    -- an edge has a priced weight exactly where it has a price and its deviation is not above the tolerance
    pub priced_has : Codes codes → is_some (priced_weight codes strays t ps i j) ≡ (is_some (edge_price codes ps i j) && within t (edge_deviation strays ps i j))
    priced_has laws =
        let price = edge_price codes ps i j in
        let kept = kept_within t (edge_deviation strays ps i j) in
        zipped_has (option_flatten (option_map priced price)) kept
        ∙ ap (λ b. b && is_some kept) (bits_have price (edge_price_sized codes laws ps i j))
        ∙ ap (λ b. is_some price && b) (kept_has t (edge_deviation strays ps i j))
