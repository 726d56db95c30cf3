-- The steps of filling rows whose front is a table.
use Rattle.std.proofs.Common.{◌≡◌, ℕ, ◌+◌, ◌<◌, List, length, get_or, take, set, Some, None, Option, sym, refl, ap, ◌∙◌, subst, arith}
use Rattle.cost.specs.Cost.{CostOf, Laws}
use Rattle.std.proofs.lemmas.List.{take_more_set}
use Rattle.std.proofs.lemmas.Option.{slice_get_read}
use Rattle.graph.proofs.Least.{offer_within}
use Rattle.graph.proofs.Offers.{best_skips, best_takes}
use Rattle.graph.proofs.Tables.{table_push}
use Rattle.graph.specs.Rows.{Shallow, from_row, offer, RowRule, Table}
use Rattle.graph.specs.Steps.{better, Best}
use Rattle.graph.specs.declared.Row.{Row}
use Rattle.graph.specs.declared.search.Candidate.{Candidate}

module _ {C W : Type 0} (k : CostOf C W) (edge : ℕ → ℕ → Option W) (rows : List (Row C)) where
  -- a row more
  pub table_more : (to : ℕ) (row : Row C) → to < length rows → Table k edge (take to rows) → RowRule k edge (take to rows) (length (take to rows)) row →
      Table k edge (take (to + 1) (set rows to row))
  table_more to row l t rule = subst (Table k edge) (sym (take_more_set rows to row l)) (table_push k edge (take to rows) row t rule)

  -- what the rows offer the place after them
  abbrev offers : ℕ → Option C
  offers i = offer k edge rows i (length rows)

  module _ (i : ℕ) (inside : i < length rows) (row : Row C) (read : row ≡ get_or rows i row) (b after : Option (Candidate C)) (so : Best k offers i b) where
    given : (o : Option C) → o ≡ from_row k (Some row) (edge i (length rows)) → offers i ≡ o
    given o e = ap (λ r. from_row k r (edge i (length rows))) (slice_get_read rows (length rows) i row refl inside read) ∙ sym e

    -- a place that offers nothing
    pub offer_skips : None ≡ from_row k (Some row) (edge i (length rows)) → after ≡ b → Best k offers (i + 1) after
    offer_skips e kept = subst (Best k offers (i + 1)) (sym kept) (best_skips k offers i b so (given None e))

    -- an offer more
    pub offer_more : (places : ℕ) (depth : ℕ → ℕ) → Shallow places edge depth → Laws k → length rows < places → Table k edge rows → (new r : Candidate C) →
        new.from ≡ i → Some new.cost ≡ from_row k (Some row) (edge i (length rows)) → r ≡ better k b new → after ≡ Some r → Best k offers (i + 1) after
    offer_more places depth shallow laws place t new r at e is took =
        subst (Best k offers (i + 1)) (sym (took ∙ ap Some is))
        (best_takes k offers laws i b new
        (λ m x n o. offer_within k edge places depth shallow rows (omega arith) t (length rows) m x (omega arith) place o) so at (given (Some new.cost) e))
