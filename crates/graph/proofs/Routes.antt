-- Paths: the last step taken off, the values that they come to, and what a table says of them.
use Rattle.std.proofs.Common.{◌≡◌, ℕ, ◌<◌, List, [], ◌∷◌, ◌++◌, Some, None, Option, sym, refl, ap, ◌∙◌}
use Rattle.cost.specs.Cost.{CostOf}
use Rattle.std.proofs.iter.runs.Lists.{none-some, same_Some}
use Rattle.graph.specs.Paths.{Rising, cost_on, path_cost, PathTo}
use Rattle.graph.specs.Paths.Rising.{alone, higher}
use Rattle.graph.specs.Rows.{through}

-- the last of a list that begins with v
abbrev last : ℕ → List ℕ → ℕ
last v [] = v
last v (u ∷ us) = last u us

last_push : (v : ℕ) (us : List ℕ) (j : ℕ) → last v (us ++ (j ∷ [])) ≡ j
last_push v [] j = refl
last_push v (u ∷ us) j = last_push u us j

-- a list that rises to i is some v and then more, of which i is the last
rising_parts : {i : ℕ} {vs : List ℕ} → Rising i vs → (v : ℕ) × (us : List ℕ) × (vs ≡ v ∷ us) × (last v us ≡ i)
rising_parts alone = (0, [], refl, refl)
rising_parts (higher {j = j} r l) =
    let p = rising_parts r in
    (p.0, p.1 ++ (j ∷ []), ap (λ xs. xs ++ (j ∷ [])) p.2, last_push p.0 p.1 j)

module _ {C W : Type 0} (k : CostOf C W) (edge : ℕ → ℕ → Option W) where
  abbrev and_then : ℕ → ℕ → Option C → Option C
  and_then i j None = None
  and_then i j (Some c) = through k c (edge i j)

  cost_on_push : (v : ℕ) (c : C) (us : List ℕ) (j : ℕ) → cost_on k edge v c (us ++ (j ∷ [])) ≡ and_then (last v us) j (cost_on k edge v c us)
  cost_on_push v c [] j = go (through k c (edge v j))
    where
      go : (o : Option C) → (elim o as (λ _. Option C) [ None ↦ None | Some d ↦ Some d ]) ≡ o
      go None = refl
      go (Some d) = refl
  cost_on_push v c (u ∷ us) j = go (through k c (edge v u)) (λ d. cost_on_push u d us j)
    where
      go : (o : Option C) → ((d : C) → cost_on k edge u d (us ++ (j ∷ [])) ≡ and_then (last u us) j (cost_on k edge u d us)) →
          (elim o as (λ _. Option C) [ None ↦ None | Some d ↦ cost_on k edge u d (us ++ (j ∷ [])) ])
          ≡ and_then (last u us) j (elim o as (λ _. Option C) [ None ↦ None | Some d ↦ cost_on k edge u d us ])
      go None h = refl
      go (Some d) h = h d

  path_cost_push : {i : ℕ} {vs : List ℕ} (j : ℕ) → Rising i vs → path_cost k edge (vs ++ (j ∷ [])) ≡ and_then i j (path_cost k edge vs)
  path_cost_push {i} {vs} j r =
      let p = rising_parts r in
      ap (λ xs. path_cost k edge (xs ++ (j ∷ []))) p.2
      ∙ cost_on_push p.0 k.start p.1 j
      ∙ ap (λ l. and_then l j (path_cost k edge (p.0 ∷ p.1))) p.3
      ∙ ap (λ xs. and_then i j (path_cost k edge xs)) (sym p.2)

  -- a path with one step more
  pub path_push : {i j : ℕ} {vs : List ℕ} (c : C) (w : W) → PathTo k edge i vs c → i < j → edge i j ≡ Some w → PathTo k edge j (vs ++ (j ∷ [])) (k.join c w)
  path_push {i} {j} c w p l e = (higher p.0 l, path_cost_push j p.0 ∙ ap (and_then i j) p.1 ∙ ap (through k c) e)

  -- the last step of a path
  pub path_last : {i j : ℕ} {vs : List ℕ} (d : C) → Rising i vs → path_cost k edge (vs ++ (j ∷ [])) ≡ Some d →
      (c : C) × (w : W) × (path_cost k edge vs ≡ Some c) × (edge i j ≡ Some w) × (d ≡ k.join c w)
  path_last {i} {j} {vs} d r h = go (path_cost k edge vs) refl (edge i j) refl (sym (path_cost_push j r) ∙ h)
    where
      go : (o : Option C) → path_cost k edge vs ≡ o → (e : Option W) → edge i j ≡ e → and_then i j o ≡ Some d →
          (c : C) × (w : W) × (path_cost k edge vs ≡ Some c) × (edge i j ≡ Some w) × (d ≡ k.join c w)
      go None p e q g = absurd (none-some d g)
      go (Some c) p None q g = absurd (none-some d (sym (ap (through k c) q) ∙ g))
      go (Some c) p (Some w) q g = (c, w, p, q, sym (same_Some _ _ (sym (ap (through k c) q) ∙ g)))
