-- The table and the list that the rules determine, computed.
use Rattle.std.proofs.Common.{◌≡◌, ℕ, zero, suc, ◌+◌, ◌-◌, ◌<◌, ◌≤◌, Bool, true, false, cond, List, [], ◌∷◌, ◌++◌, length, take, Some, None, Option, sym, refl, ap, ◌∙◌, subst, inl, inr, add-one, arith}
use Rattle.cost.specs.Cost.{CostOf, Laws, Within}
use Rattle.graph.proofs.Least.{offer_within}
use Rattle.graph.proofs.Offers.{no_offer_more, least_skips, least_keeps, least_first, least_takes}
use Rattle.graph.proofs.Options.{nth_take}
use Rattle.graph.proofs.Tables.{one_table, table_push}
use Rattle.graph.specs.Paths.{ReadBack}
use Rattle.graph.specs.Paths.ReadBack.{first, next}
use Rattle.graph.specs.Rows.{offer, NoOffer, Least, first_row, unreached_row, LaterRow, RowRule, Table, Filled}
use Rattle.graph.specs.declared.Row.{Row}
use Rattle.search.proofs.Bests.{shallow_points, front_back}
use Rattle.search.specs.Rules.{reached_cost, last_cost}
use Rattle.std.proofs.iter.runs.Lists.{none-some}
use Rattle.std.proofs.lemmas.List.{length_push, length-take-le}
use Rattle.std.specs.List.{slice_get}

-- the list read back, in at most f steps
abbrev predecessor_of : {C : Type 0} → Option (Row C) → ℕ
predecessor_of None = 0
predecessor_of (Some row) = row.predecessor

abbrev pub back : {C : Type 0} → List (Row C) → ℕ → ℕ → List ℕ
back rows f zero = 0 ∷ []
back rows zero (suc j) = []
back rows (suc f) (suc j) = back rows f (predecessor_of (slice_get rows (suc j))) ++ (suc j ∷ [])

module _ {C : Type 0} (rows : List (Row C)) where
  back_on : (f j : ℕ) (row : Row C) (vs : List ℕ) → slice_get rows j ≡ Some row → row.predecessor < j → vs ≡ back rows f row.predecessor → vs ++ (j ∷ []) ≡ back rows (suc f) j
  back_on f zero row vs e l same = absurd (omega arith)
  back_on f (suc j) row vs e l same = ap (λ us. us ++ (suc j ∷ [])) (same ∙ ap (λ o. back rows f (predecessor_of o)) (sym e))

  pub back_is : {j : ℕ} {vs : List ℕ} (f : ℕ) → j ≤ f → ReadBack rows j vs → vs ≡ back rows f j
  back_is f l (first e r) = refl
  back_is zero l (next e r m b) = absurd (omega arith)
  back_is (suc f) l (next {j = j} {row = row} {vs = vs} e r m b) = back_on f j row vs e m (back_is f (omega arith) b)

module _ {C W : Type 0} (k : CostOf C W) (edge : ℕ → ℕ → Option W) where
  -- the lowest place below i that offers the least, with what it offers
  abbrev with_offer : Option (ℕ × C) → ℕ → Option C → Option (ℕ × C)
  with_offer b i None = b
  with_offer None i (Some d) = Some (i, d)
  with_offer (Some b) i (Some d) = cond (k.above b.1 d) (Some (i, d)) (Some b)

  abbrev best_of : List (Row C) → ℕ → ℕ → Option (ℕ × C)
  best_of rows j zero = None
  best_of rows j (suc i) = with_offer (best_of rows j i) i (offer k edge rows i j)

  abbrev row_of : Option (ℕ × C) → Row C
  row_of None = unreached_row k
  row_of (Some b) = record { reached = true; cost = b.1; predecessor = b.0 }

  abbrev next_row : List (Row C) → ℕ → Row C
  next_row rows zero = first_row k
  next_row rows (suc j) = row_of (best_of rows (suc j) (suc j))

  abbrev pub table : ℕ → List (Row C)
  table zero = []
  table (suc n) = let t = table n in t ++ (next_row t n ∷ [])

  module _ (laws : Laws k) (places : ℕ) (few : places ≤ 256) where
    module _ (rows : List (Row C)) (j : ℕ) (long : length rows ≡ j) (place : j < places) (t : Table k edge rows) where
      abbrev Lowest : ℕ → Option (ℕ × C) → Type 0
      Lowest i None = NoOffer (λ i. offer k edge rows i j) i
      Lowest i (Some b) = Least k (λ i. offer k edge rows i j) i b.0 b.1

      within : (i : ℕ) (d : C) → i < j → offer k edge rows i j ≡ Some d → Within k 255 d
      within i d l h = offer_within k edge places (λ j. j) (shallow_points places edge few) rows (omega arith) t j i d l place h

      lowest_more : (i : ℕ) (b : Option (ℕ × C)) → i < j → Lowest i b → (o : Option C) → offer k edge rows i j ≡ o → Lowest (i + 1) (with_offer b i o)
      lowest_more i None l so None e = no_offer_more k (λ i. offer k edge rows i j) i so e
      lowest_more i (Some b) l so None e = least_skips k (λ i. offer k edge rows i j) i b.0 b.1 so e
      lowest_more i None l so (Some d) e = least_first k (λ i. offer k edge rows i j) laws i d so e (within i d l e)
      lowest_more i (Some b) l so (Some d) e = go (k.above b.1 d) refl
        where
          go : (below : Bool) → k.above b.1 d ≡ below → Lowest (i + 1) (cond below (Some (i, d)) (Some b))
          go true h = least_takes k (λ i. offer k edge rows i j) laws i b.0 b.1 d (λ m x n. within m x (omega arith)) so e h
          go false h = least_keeps k (λ i. offer k edge rows i j) i b.0 b.1 d so e h

      lowest_stands : (i : ℕ) → i ≤ j → Lowest i (best_of rows j i)
      lowest_stands zero l = λ m n. absurd (omega arith)
      lowest_stands (suc i) l =
          subst (λ m. Lowest m (best_of rows j (suc i))) (add-one i)
          (lowest_more i (best_of rows j i) (omega arith) (lowest_stands i (omega arith)) (offer k edge rows i j) refl)

      later_stands : (b : Option (ℕ × C)) → Lowest j b → LaterRow k (λ i. offer k edge rows i j) j (row_of b)
      later_stands None so = inl (refl, so)
      later_stands (Some b) so = inr (refl, so)

    row_stands : (rows : List (Row C)) (j : ℕ) → length rows ≡ j → j < places → Table k edge rows → RowRule k edge rows j (next_row rows j)
    row_stands rows zero long place t = refl
    row_stands rows (suc j) long place t =
        later_stands rows (suc j) long place t (best_of rows (suc j) (suc j)) (lowest_stands rows (suc j) long place t (suc j) (omega arith))

    table_stands : (n : ℕ) → n ≤ places → (length (table n) ≡ n) × Table k edge (table n)
    table_stands zero l = (refl, λ j row e. absurd (none-some row e))
    table_stands (suc n) l =
        let before = table_stands n (omega arith) in
        let long = before.0 in
        let row : Row C = next_row (table n) n in (
          omega (arith, length_push (table n) row),
          table_push k edge (table n) row before.1 (subst (λ m. RowRule k edge (table n) m row) (sym long) (row_stands (table n) n long (omega arith) before.1)),
        )

  module _ (laws : Laws k) (n : ℕ) (some : 0 < n) (few : n ≤ 256) (rows rows_after : List (Row C)) (kept : length rows_after ≡ length rows) (filled : Filled k edge n rows rows_after true) where
    rows_are : take n rows_after ≡ table n
    rows_are =
        let stands = table_stands laws n few n (omega arith) in
        let room = filled.0 in
        one_table k edge (take n rows_after) (table n) (length-take-le n rows_after (omega arith) ∙ sym stands.0) filled.1 stands.1

    pub cost_is : last_cost n rows_after ≡ last_cost n (table n)
    cost_is = ap reached_cost (sym (nth_take n rows_after (n - 1) (omega arith)) ∙ ap (λ (t : List (Row C)). slice_get t (n - 1)) rows_are)

    pub list_is : (vs : List ℕ) → ReadBack rows_after (n - 1) vs → vs ≡ back (table n) n (n - 1)
    list_is vs b = back_is (table n) n (omega arith) (subst (λ (t : List (Row C)). ReadBack t (n - 1) vs) rows_are (front_back n rows_after (omega arith) b))
