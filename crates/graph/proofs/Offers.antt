-- What stands behind an offer, and the best of the offers so far.
use Rattle.std.proofs.Common.{◌≡◌, ℕ, ◌+◌, ◌<◌, Bool, true, false, cond, List, Some, None, Option, sym, refl, ap, ◌∙◌, subst, inl, inr, arith}
use Rattle.cost.specs.Cost.{CostOf, Laws, Within}
use Rattle.std.proofs.iter.runs.Lists.{none-some, same_Some}
use Rattle.std.proofs.lemmas.Bool.{both_ways, cases_Bool, cases_eq}
use Rattle.std.specs.List.{slice_get}
use Rattle.graph.proofs.Options.{not_both, same_value}
use Rattle.graph.specs.Rows.{from_row, offer, through, NoOffer, Least}
use Rattle.graph.specs.Steps.{Best, better}
use Rattle.graph.specs.declared.search.Candidate.{Candidate}
use Rattle.graph.specs.declared.Row.{Row}

module _ {C W : Type 0} (k : CostOf C W) where
  -- what an offer is made of
  pub from_row_parts : (r : Option (Row C)) (e : Option W) (c : C) → from_row k r e ≡ Some c →
      (row : Row C) × (w : W) × (r ≡ Some row) × (row.reached ≡ true) × (e ≡ Some w) × (c ≡ k.join row.cost w)
  from_row_parts None e c h = absurd (none-some c h)
  from_row_parts (Some row) e c h = go row.reached refl e h
    where
      go : (b : Bool) → row.reached ≡ b → (x : Option W) → cond b (through k row.cost x) None ≡ Some c →
          (line : Row C) × (w : W) × (Some row ≡ Some line) × (line.reached ≡ true) × (x ≡ Some w) × (c ≡ k.join line.cost w)
      go false q x g = absurd (none-some c g)
      go true q None g = absurd (none-some c g)
      go true q (Some w) g = (row, w, refl, q, refl, sym (same_Some _ _ g))

  module _ (edge : ℕ → ℕ → Option W) (rows : List (Row C)) (i j : ℕ) (row : Row C) (here : slice_get rows i ≡ Some row) where
    -- a reached place offers over an edge that has a weight
    pub offer_made : (w : W) → row.reached ≡ true → edge i j ≡ Some w → offer k edge rows i j ≡ Some (k.join row.cost w)
    offer_made w reached weight =
        ap (λ r. from_row k r (edge i j)) here ∙ ap (from_row k (Some row)) weight ∙ ap (λ b. cond b (Some (k.join row.cost w)) None) reached

  pub not_above_itself : Laws k → (c : C) → Within k 255 c → k.above c c ≡ false
  not_above_itself laws c u = elim (cases_Bool (k.above c c)) [ inl e ↦ laws.compares c c u u e | inr e ↦ e ]

  module _ (offers : ℕ → Option C) where
    pub no_offer_more : (i : ℕ) → NoOffer offers i → offers i ≡ None → NoOffer offers (i + 1)
    no_offer_more i none here m l = elim (cases_eq m i) [ inl e ↦ ap offers e ∙ here | inr d ↦ none m (omega (arith, d)) ]

    -- a place that offers nothing leaves the least as it is
    pub least_skips : (i p : ℕ) (c : C) → Least k offers i p c → offers i ≡ None → Least k offers (i + 1) p c
    least_skips i p c b here = record {
      lower = omega (arith, b.lower);
      gives = b.gives;
      least = λ m d l o. elim (cases_eq m i) [ inl e ↦ absurd (not_both (offers i) d here (ap offers (sym e) ∙ o)) | inr n ↦ b.least m d (omega (arith, n)) o ];
      lowest = b.lowest;
    }

    -- an offer that is not below leaves it too
    pub least_keeps : (i p : ℕ) (c d : C) → Least k offers i p c → offers i ≡ Some d → k.above c d ≡ false → Least k offers (i + 1) p c
    least_keeps i p c d b here h = record {
      lower = omega (arith, b.lower);
      gives = b.gives;
      least = λ m x l o. elim (cases_eq m i) [
        | inl e ↦ subst (λ y. k.above c y ≡ false) (same_value (offers i) d x here (ap offers (sym e) ∙ o)) h
        | inr n ↦ b.least m x (omega (arith, n)) o
      ];
      lowest = b.lowest;
    }

    pub best_skips : (i : ℕ) (b : Option (Candidate C)) → Best k offers i b → offers i ≡ None → Best k offers (i + 1) b
    best_skips i None so here = no_offer_more i so here
    best_skips i (Some b) so here = least_skips i b.from b.cost so here

    module _ (laws : Laws k) where
      -- the first offer is the least so far
      pub least_first : (i : ℕ) (d : C) → NoOffer offers i → offers i ≡ Some d → Within k 255 d → Least k offers (i + 1) i d
      least_first i d none here u = record {
        lower = omega arith;
        gives = here;
        least = λ m x l o. elim (cases_eq m i) [
          | inl e ↦ subst (λ y. k.above d y ≡ false) (same_value (offers i) d x here (ap offers (sym e) ∙ o)) (not_above_itself laws d u)
          | inr n ↦ absurd (not_both (offers m) x (none m (omega (arith, n))) o)
        ];
        lowest = λ m x l o. absurd (not_both (offers m) x (none m l) o);
      }

      -- an offer below the least so far takes its place
      pub least_takes : (i p : ℕ) (c d : C) → ((m : ℕ) (x : C) → m < i + 1 → offers m ≡ Some x → Within k 255 x) →
          Least k offers i p c → offers i ≡ Some d → k.above c d ≡ true → Least k offers (i + 1) i d
      least_takes i p c d within b here h = record {
        lower = omega arith;
        gives = here;
        least = λ m x l o. elim (cases_eq m i) [
          | inl e ↦ subst (λ y. k.above d y ≡ false) (same_value (offers i) d x here (ap offers (sym e) ∙ o)) (not_above_itself laws d new)
          | inr n ↦ laws.transitive d c x new old (within m x l o) (laws.compares c d old new h) (b.least m x (omega (arith, n)) o)
        ];
        lowest = λ m x l o. elim (cases_Bool (k.above x d)) [
          | inl e ↦ e
          | inr e ↦ absurd (both_ways _ (laws.transitive c x d old (within m x (omega (arith, l)) o) new (b.least m x l o) e) h)
        ];
      }
        where
          new : Within k 255 d
          new = within i d (omega arith) here

          old : Within k 255 c
          old = within p c (omega (arith, b.lower)) b.gives

      pub best_takes : (i : ℕ) (b : Option (Candidate C)) (new : Candidate C) → ((m : ℕ) (x : C) → m < i + 1 → offers m ≡ Some x → Within k 255 x) →
          Best k offers i b → new.from ≡ i → offers i ≡ Some new.cost → Best k offers (i + 1) (Some (better k b new))
      best_takes i None new within so at here =
          subst (λ p. Least k offers (i + 1) p new.cost) (sym at) (least_first i new.cost so here (within i new.cost (omega arith) here))
      best_takes i (Some b) new within so at here = go (k.above b.cost new.cost) refl
        where
          go : (t : Bool) → k.above b.cost new.cost ≡ t → Best k offers (i + 1) (Some (cond t new b))
          go true h = subst (λ p. Least k offers (i + 1) p new.cost) (sym at) (least_takes i b.from b.cost new.cost within so here h)
          go false h = least_keeps i b.from b.cost new.cost so here h
