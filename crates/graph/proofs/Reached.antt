-- What a table says of places: which are reached, and by which path.
use Rattle.std.proofs.Common.{◌≡◌, ℕ, zero, suc, ◌<◌, true, false, List, [], ◌∷◌, ◌++◌, Some, Option, sym, ap, subst, inl, inr, arith}
use Rattle.cost.specs.Cost.{CostOf}
use Rattle.std.proofs.iter.runs.Lists.{slice_get_within}
use Rattle.std.proofs.lemmas.Bool.{both_ways}
use Rattle.std.specs.List.{slice_get}
use Rattle.graph.proofs.Chains.{one_read_back}
use Rattle.graph.proofs.Offers.{from_row_parts, offer_made}
use Rattle.graph.proofs.Options.{not_both, nth_there}
use Rattle.graph.proofs.Routes.{path_push, path_last}
use Rattle.graph.specs.Paths.{Rising, ReadBack, path_cost, PathTo}
use Rattle.graph.specs.Paths.ReadBack.{first, next}
use Rattle.graph.specs.Paths.Rising.{alone, higher}
use Rattle.graph.specs.Rows.{offer, Least, LaterRow, RowRule, Table}
use Rattle.graph.specs.Theorems.{ReachedStands, ReadBackStands}
use Rattle.graph.specs.declared.Row.{Row}

module _ {C W : Type 0} (k : CostOf C W) (edge : ℕ → ℕ → Option W) where
  pub later_rule : (rows : List (Row C)) (j : ℕ) (row : Row C) → 0 < j → RowRule k edge rows j row → LaterRow k (λ i. offer k edge rows i j) j row
  later_rule rows zero row l h = absurd (omega arith)
  later_rule rows (suc j) row l h = h

  module _ (rows : List (Row C)) (t : Table k edge rows) where
    -- a reached later place, its predecessor and the edge between them
    pub reached_by : (j : ℕ) (row : Row C) → 0 < j → slice_get rows j ≡ Some row → row.reached ≡ true →
        Least k (λ i. offer k edge rows i j) j row.predecessor row.cost
    reached_by j row l here reached = go (later_rule rows j row l (t j row here))
      where
        go : LaterRow k (λ i. offer k edge rows i j) j row → Least k (λ i. offer k edge rows i j) j row.predecessor row.cost
        go (inl a) = absurd (both_ways row.reached (ap (λ r. r.reached) a.0) reached)
        go (inr a) = a.1

    -- an edge from a reached place leads to a reached one, and costs no less than the row says
    pub offer_taken : (i j : ℕ) (below row : Row C) (w : W) → i < j → slice_get rows i ≡ Some below → below.reached ≡ true → edge i j ≡ Some w → slice_get rows j ≡ Some row →
        (row.reached ≡ true) × (k.above row.cost (k.join below.cost w) ≡ false)
    offer_taken i j below row w l there reached weight here = go (later_rule rows j row (omega arith) (t j row here))
      where
        made : offer k edge rows i j ≡ Some (k.join below.cost w)
        made = offer_made k edge rows i j below there w reached weight

        go : LaterRow k (λ i. offer k edge rows i j) j row → (row.reached ≡ true) × (k.above row.cost (k.join below.cost w) ≡ false)
        go (inl a) = absurd (not_both (offer k edge rows i j) _ (a.1 i l) made)
        go (inr a) = (a.0, a.1.least i _ l made)

    pub path_reached : {j : ℕ} {vs : List ℕ} (c : C) (row : Row C) → Rising j vs → path_cost k edge vs ≡ Some c → slice_get rows j ≡ Some row → row.reached ≡ true
    path_reached c row alone p here = ap (λ r. r.reached) (t 0 row here)
    path_reached c row (higher {i = i} {j = j} r l) p here =
        let last = path_last k edge c r p in
        let near = nth_there rows i (omega (arith, slice_get_within rows j row here)) in
        (offer_taken i j near.0 row last.1 l near.1 (path_reached last.0 near.0 r last.2 near.1) last.3 here).0

    -- the list read back from a reached place, by induction on a bound of the place
    route : (n j : ℕ) (row : Row C) → j < n → slice_get rows j ≡ Some row → row.reached ≡ true → (vs : List ℕ) × ReadBack rows j vs × PathTo k edge j vs row.cost
    route zero j row l here reached = absurd (omega arith)
    route (suc n) zero row l here reached = (0 ∷ [], first here reached, (alone, ap (λ r. Some r.cost) (sym (t 0 row here))))
    route (suc n) (suc i) row l here reached =
        let b = reached_by (suc i) row (omega arith) here reached in
        let o = from_row_parts k (slice_get rows row.predecessor) (edge row.predecessor (suc i)) row.cost b.gives in
        let near = o.0 in
        let back = route n row.predecessor near (omega (arith, b.lower)) o.2 o.3 in (
          back.0 ++ (suc i ∷ []),
          next here reached b.lower back.1,
          subst (λ c. PathTo k edge (suc i) (back.0 ++ (suc i ∷ [])) c) (sym o.5) (path_push k edge near.cost o.1 back.2 b.lower o.4),
        )

module _ {C W : Type 0} (k : CostOf C W) where
  pub reached_stands : ReachedStands k
  reached_stands edge rows t j row here = (
    λ reached. let found = route k edge rows t (suc j) j row (omega arith) here reached in (found.0, row.cost, found.2),
    λ p. path_reached k edge rows t p.1 row p.2.0 p.2.1 here,
  )

  pub read_back_stands : ReadBackStands k
  read_back_stands edge rows t j row here reached =
      let found = route k edge rows t (suc j) j row (omega arith) here reached in
      (found.0, found.1, found.2, λ us other. one_read_back other found.1)
