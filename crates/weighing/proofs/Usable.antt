-- Which polygons are usable: a polygon is usable by prices where all its edges have one.
use Rattle.std.proofs.Common.{◌≡◌, ℕ, true, false, List, [], ◌∷◌, is_some, Some, None, fold, Option, sym, refl, ◌∙◌}
use Rattle.std.proofs.ByRecursion.{All-weaker}
use Rattle.std.proofs.lemmas.Bool.{and_from, and_parts, both_ways, not_from_false, not-true}
use Rattle.std.specs.List.{AllByRecursion}
use Rattle.outline.specs.declared.point.Point.{Point}
use Rattle.outline.specs.Polygon.{edges}
use Rattle.coding.specs.Tables.{Table, Codes}
use Rattle.measure.specs.declared.fraction.Fraction.{Fraction}
use Rattle.measure.specs.Deviation.{edge_deviation, polygon_deviation, within}
use Rattle.measure.specs.Fractions.{zero as nought, above, wider, widened}
use Rattle.measure.specs.Measures.{Strays}
use Rattle.measure.proofs.Order.{not_above_through}
use Rattle.measure.proofs.Widening.{not_above_itself, nought_not_above, widened_grows, wider_covers}
use Rattle.weighing.specs.Edges.{edge_price}
use Rattle.weighing.specs.Weighers.{priced_weight, straying_weight}
use Rattle.weighing.specs.Weights.{Usable}
use Rattle.weighing.specs.DeviationLaws.{wider_least}
use Rattle.weighing.proofs.EdgeWeights.{deviation_has, price_edge, priced_has, straying_has}

all_both : {X : Type 0} (P Q : X → Type 0) (xs : List X) → AllByRecursion P xs → AllByRecursion Q xs → AllByRecursion (λ x. P x × Q x) xs
all_both P Q [] p q = tt
all_both P Q (x ∷ xs) p q = ((p.0, q.0), all_both P Q xs p.1 q.1)

widened_within : (t a : Fraction) (o : Option Fraction) → above a t ≡ false → within t o ≡ true → above (widened a o) t ≡ false
widened_within t a (Some d) low h = wider_least a d t low (not-true (above d t) h)
widened_within t a None low h = low

within_widened : (t a : Fraction) (o : Option Fraction) → is_some o ≡ true → above (widened a o) t ≡ false → within t o ≡ true
within_widened t a (Some d) has low = not_from_false (above d t) (not_above_through d (wider a d) t (wider_covers a d) low)
within_widened t a None has low = absurd (both_ways false refl has)

module _ (t : Fraction) (dev : ℕ → ℕ → Option Fraction) where
  -- the widest of a fraction and the deviations of some edges
  abbrev spread : Fraction → List (ℕ × ℕ) → Fraction
  spread a es = fold (λ old e. widened old (dev e.0 e.1)) a es

  spread_grows : (a : Fraction) (es : List (ℕ × ℕ)) → above a (spread a es) ≡ false
  spread_grows a [] = not_above_itself a
  spread_grows a (e ∷ es) =
      let b = widened a (dev e.0 e.1) in
      not_above_through a b (spread b es) (widened_grows a (dev e.0 e.1)) (spread_grows b es)

  spread_within : (a : Fraction) (es : List (ℕ × ℕ)) → above a t ≡ false → AllByRecursion (λ e. within t (dev e.0 e.1) ≡ true) es → above (spread a es) t ≡ false
  spread_within a [] low h = low
  spread_within a (e ∷ es) low h =
      let o = dev e.0 e.1 in
      spread_within (widened a o) es (widened_within t a o low h.0) h.1

  within_spread : (a : Fraction) (es : List (ℕ × ℕ)) → above (spread a es) t ≡ false → AllByRecursion (λ e. is_some (dev e.0 e.1) ≡ true) es → AllByRecursion (λ e. within t (dev e.0 e.1) ≡ true) es
  within_spread a [] low has = tt
  within_spread a (e ∷ es) low has =
      let o = dev e.0 e.1 in
      let b = widened a o in
      (within_widened t a o has.0 (not_above_through b (spread b es) t (spread_grows b es) low), within_spread b es low has.1)

module _ (codes : Table) (strays : Strays) (ps : List Point) (n : ℕ) (vs : List ℕ) where
  abbrev Priced : ℕ × ℕ → Type 0
  Priced e = is_some (edge_price codes ps e.0 e.1) ≡ true

  abbrev Within : Fraction → ℕ × ℕ → Type 0
  Within t e = within t (edge_deviation strays ps e.0 e.1) ≡ true

  -- usable by straying weights exactly where every edge has a price
  pub straying_usable : Usable (straying_weight codes strays ps) n vs → Usable (edge_price codes ps) n vs
  straying_usable u =
      (u.0, All-weaker (λ e. is_some (straying_weight codes strays ps e.0 e.1) ≡ true) Priced (λ e h. sym (straying_has codes strays ps e.0 e.1) ∙ h) (edges vs) u.1)

  pub usable_straying : Usable (edge_price codes ps) n vs → Usable (straying_weight codes strays ps) n vs
  usable_straying u =
      (u.0, All-weaker Priced (λ e. is_some (straying_weight codes strays ps e.0 e.1) ≡ true) (λ e h. straying_has codes strays ps e.0 e.1 ∙ h) (edges vs) u.1)

  module _ (laws : Codes codes) (t : Fraction) where
    abbrev Weighed : ℕ × ℕ → Type 0
    Weighed e = is_some (priced_weight codes strays t ps e.0 e.1) ≡ true

    parts : (e : ℕ × ℕ) → Weighed e → Priced e × Within t e
    parts e h = and_parts (is_some (edge_price codes ps e.0 e.1)) (within t (edge_deviation strays ps e.0 e.1)) (sym (priced_has codes strays ps e.0 e.1 t laws) ∙ h)

    whole : (e : ℕ × ℕ) → Priced e × Within t e → Weighed e
    whole e h = priced_has codes strays ps e.0 e.1 t laws ∙ and_from (is_some (edge_price codes ps e.0 e.1)) (within t (edge_deviation strays ps e.0 e.1)) h.0 h.1

    -- usable at a tolerance exactly where every edge has a price and the polygon's deviation is not above the tolerance
    pub priced_usable : Usable (priced_weight codes strays t ps) n vs → Usable (edge_price codes ps) n vs × (above (polygon_deviation (edge_deviation strays ps) vs) t ≡ false)
    priced_usable u = (
      (u.0, All-weaker Weighed Priced (λ e h. (parts e h).0) (edges vs) u.1),
      spread_within t (edge_deviation strays ps) nought (edges vs) (nought_not_above t) (All-weaker Weighed (Within t) (λ e h. (parts e h).1) (edges vs) u.1),
    )

    pub usable_priced : Usable (edge_price codes ps) n vs → above (polygon_deviation (edge_deviation strays ps) vs) t ≡ false → Usable (priced_weight codes strays t ps) n vs
    usable_priced u low =
        let has = All-weaker Priced (λ e. is_some (edge_deviation strays ps e.0 e.1) ≡ true) (λ e h. deviation_has strays ps e.0 e.1 ∙ price_edge codes ps e.0 e.1 h) (edges vs) u.1 in
        let near = within_spread t (edge_deviation strays ps) nought (edges vs) low has in
        (u.0, All-weaker (λ e. Priced e × Within t e) Weighed whole (edges vs) (all_both Priced (Within t) (edges vs) u.1 near))
