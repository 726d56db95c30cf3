-- No path costs less than a table says.
use Rattle.std.proofs.Common.{◌≡◌, ℕ, zero, suc, ◌<◌, ◌≤◌, true, false, List, length, Some, Option, sym, ap, ◌∙◌, subst, arith}
use Rattle.cost.proofs.Values.{within_more}
use Rattle.cost.specs.Cost.{CostOf, Laws, Within}
use Rattle.cost.specs.Cost.Within.{begins, goes}
use Rattle.std.proofs.iter.runs.Lists.{slice_get_within, same_Some}
use Rattle.std.specs.List.{slice_get}
use Rattle.graph.proofs.Offers.{from_row_parts, not_above_itself}
use Rattle.graph.proofs.Options.{nth_there}
use Rattle.graph.proofs.Reached.{reached_by, offer_taken, path_reached}
use Rattle.graph.proofs.Routes.{path_last}
use Rattle.graph.specs.Paths.{Rising, path_cost}
use Rattle.graph.specs.Paths.Rising.{alone, higher}
use Rattle.graph.specs.Rows.{Shallow, offer, Table}
use Rattle.graph.specs.Theorems.{LeastStands}
use Rattle.graph.specs.declared.Row.{Row}

module _ {C W : Type 0} (k : CostOf C W) (edge : ℕ → ℕ → Option W) (places : ℕ) (depth : ℕ → ℕ) (shallow : Shallow places edge depth) where
  -- one edge more
  step_within : (i j : ℕ) (c : C) (w : W) → i < j → j < places → edge i j ≡ Some w → Within k (depth i) c → Within k (depth j) (k.join c w)
  step_within i j c w l m e v = within_more (depth j) (shallow.deeper i j w l m e) (goes w v)

  pub path_within : {j : ℕ} {vs : List ℕ} (c : C) → j < places → Rising j vs → path_cost k edge vs ≡ Some c → Within k (depth j) c
  path_within c m alone p = subst (Within k (depth 0)) (same_Some _ _ p) begins
  path_within c m (higher {i = i} {j = j} r l) p =
      let last = path_last k edge c r p in
      subst (Within k (depth j)) (sym last.4) (step_within i j last.0 last.1 l m last.3 (path_within last.0 (omega arith) r last.2))

  module _ (rows : List (Row C)) (few : length rows ≤ places) (t : Table k edge rows) where
    row_within : (n j : ℕ) (row : Row C) → j < n → slice_get rows j ≡ Some row → row.reached ≡ true → Within k (depth j) row.cost
    row_within zero j row l here reached = absurd (omega arith)
    row_within (suc n) zero row l here reached = subst (Within k (depth 0)) (ap (λ r. r.cost) (sym (t 0 row here))) begins
    row_within (suc n) (suc i) row l here reached =
        let b = reached_by k edge rows t (suc i) row (omega arith) here reached in
        let o = from_row_parts k (slice_get rows row.predecessor) (edge row.predecessor (suc i)) row.cost b.gives in
        let near = row_within n row.predecessor o.0 (omega (arith, b.lower)) o.2 o.3 in
        subst (Within k (depth (suc i))) (sym o.5)
        (step_within row.predecessor (suc i) o.0.cost o.1 b.lower (omega (arith, slice_get_within rows (suc i) row here)) o.4 near)

    -- each offer to a place is reached over at most 255 edges
    pub offer_within : (j i : ℕ) (d : C) → i < j → j < places → offer k edge rows i j ≡ Some d → Within k 255 d
    offer_within j i d l m h =
        let o = from_row_parts k (slice_get rows i) (edge i j) d h in
        within_more 255 (shallow.most j m)
        (subst (Within k (depth j)) (sym o.5) (step_within i j o.0.cost o.1 l m o.4 (row_within (suc i) i o.0 (omega arith) o.2 o.3)))

    module _ (laws : Laws k) where
      pub least_path : {j : ℕ} {vs : List ℕ} (c : C) (row : Row C) → Rising j vs → path_cost k edge vs ≡ Some c → slice_get rows j ≡ Some row → k.above row.cost c ≡ false
      least_path c row alone p here =
          let start : k.start ≡ c = same_Some _ _ p in
          let first : row.cost ≡ k.start = ap (λ r. r.cost) (t 0 row here) in
          subst (λ x. k.above x c ≡ false) (sym (first ∙ start)) (not_above_itself k laws c (subst (Within k 255) start begins))
      least_path c row (higher {i = i} {j = j} {vs = vs} r l) p here =
          let last = path_last k edge c r p in
          let inside = slice_get_within rows j row here in
          let near = nth_there rows i (omega (arith, inside)) in
          let reached = path_reached k edge rows t last.0 near.0 r last.2 near.1 in
          let taken = offer_taken k edge rows t i j near.0 row last.1 l near.1 reached last.3 here in
          let close : depth i ≤ 254 = omega (arith, shallow.deeper i j last.1 l (omega (arith, inside)) last.3, shallow.most j (omega (arith, inside))) in
          let row_in = row_within (suc i) i near.0 (omega arith) near.1 reached in
          let path_in = path_within last.0 (omega (arith, inside)) r last.2 in
          let kept = laws.keeps near.0.cost last.0 last.1 (within_more 254 close row_in) (within_more 254 close path_in) (least_path last.0 near.0 r last.2 near.1) in
          subst (λ x. k.above row.cost x ≡ false) (sym last.4)
          (laws.transitive row.cost (k.join near.0.cost last.1) (k.join last.0 last.1)
          (within_more 255 (shallow.most j (omega (arith, inside))) (row_within (suc j) j row (omega arith) here taken.0))
          (goes last.1 (within_more 254 close row_in))
          (goes last.1 (within_more 254 close path_in))
          taken.1 kept)

module _ {C W : Type 0} (k : CostOf C W) where
  pub least_stands : Laws k → LeastStands k
  least_stands laws edge depth rows shallow t j row here vs c p =
      least_path k edge (length rows) depth shallow rows (omega arith) t laws c row p.0 p.1 here
