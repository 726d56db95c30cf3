-- All polygons of a few points, one by one.
use Rattle.std.proofs.Common.{◌≡◌, ℕ, zero, suc, ◌-◌, ◌<◌, ◌≤◌, Bool, true, ◌&&◌, List, [], ◌∷◌, ◌++◌, sym, ap, ◌∙◌, inl, inr, append_assoc, append-nil, arith}
use Rattle.graph.specs.Paths.{Rising}
use Rattle.graph.specs.Paths.Rising.{alone, higher}
use Rattle.outline.specs.Polygon.{Polygon}
use Rattle.search.proofs.Polygons.{polygon_rising}
use Rattle.std.proofs.lemmas.Bool.{and_parts, cases_eq}

abbrev all_below : (ℕ → Bool) → ℕ → Bool
all_below p zero = true
all_below p (suc n) = p n && all_below p n

all_below_at : (p : ℕ → Bool) (n i : ℕ) → i < n → all_below p n ≡ true → p i ≡ true
all_below_at p zero i l h = absurd (omega arith)
all_below_at p (suc n) i l h =
    let parts = and_parts (p n) (all_below p n) h in
    elim (cases_eq i n) [ inl e ↦ ap p e ∙ parts.0 | inr d ↦ all_below_at p n i (omega (arith, d)) parts.1 ]

-- whether a test holds of every list that rises to j, with a tail behind it, for j up to f
abbrev pub every : (List ℕ → Bool) → ℕ → ℕ → List ℕ → Bool
every test zero j tail = test (0 ∷ tail)
every test (suc f) zero tail = test (0 ∷ tail)
every test (suc f) (suc j) tail = all_below (λ i. every test f i (suc j ∷ tail)) (suc j)

module _ (test : List ℕ → Bool) where
  every_lower : (f i j : ℕ) (tail : List ℕ) → i < j → every test (suc f) j tail ≡ true → every test f i (j ∷ tail) ≡ true
  every_lower f i zero tail l h = absurd (omega arith)
  every_lower f i (suc j) tail l h = all_below_at (λ m. every test f m (suc j ∷ tail)) (suc j) i l h

  every_rising : {j : ℕ} {vs : List ℕ} (f : ℕ) (tail : List ℕ) → j ≤ f → every test f j tail ≡ true → Rising j vs → test (vs ++ tail) ≡ true
  every_rising zero tail l h alone = h
  every_rising (suc f) tail l h alone = h
  every_rising zero tail l h (higher r m) = absurd (omega arith)
  every_rising (suc f) tail l h (higher {i = i} {j = j} {vs = vs} r m) =
      ap test (append_assoc vs (j ∷ []) tail) ∙ every_rising f (j ∷ tail) (omega arith) (every_lower f i j tail m h) r

  pub every_polygon : (n : ℕ) (vs : List ℕ) → every test n (n - 1) [] ≡ true → Polygon n vs → test vs ≡ true
  every_polygon n vs h p = ap test (sym (append-nil vs)) ∙ every_rising n [] (omega arith) h (polygon_rising p)
