-- What the table of an outline's points says of its usable polygons.
use Rattle.std.proofs.Common.{◌≡◌, ℕ, ◌-◌, ◌<◌, ◌≤◌, true, false, List, length, take, drop, Some, None, Option, sym, refl, ap, ◌∙◌, subst, subst₂, inr, arith}
use Rattle.cost.specs.Cost.{CostOf, Laws}
use Rattle.graph.proofs.Chains.{read_back_rising}
use Rattle.graph.proofs.Least.{least_stands}
use Rattle.graph.proofs.Options.{not_both, nth_there, nth_take}
use Rattle.graph.proofs.Reached.{reached_stands, read_back_stands}
use Rattle.graph.specs.Paths.{ReadBack, PathTo}
use Rattle.graph.specs.Paths.ReadBack.{first, next}
use Rattle.graph.specs.Rows.{Shallow, Table, Filled}
use Rattle.graph.specs.declared.Row.{Row}
use Rattle.std.proofs.lemmas.Option.{cond_some, none-some}
use Rattle.std.proofs.lemmas.List.{length-take-le, take_at}
use Rattle.std.proofs.lemmas.Bool.{cond-true}
use Rattle.outline.specs.declared.refusal.Refusal.TheVariants.{NoUsable}
use Rattle.std.specs.List.{slice_get}
use Rattle.std.specs.Option.{ok_or}
use Rattle.weighing.specs.Weights.{polygon_cost}
use Rattle.search.proofs.Polygons.{rising_short}
use Rattle.search.proofs.Prices.{usable_path, path_usable}
use Rattle.search.specs.Best.{NoneUsable, Best, LeastCost, BestAnswered}
use Rattle.search.specs.Rules.{reached_cost, last_cost, ReadOut, Answered}
use Rattle.search.specs.declared.Found.{Found}

-- fewer than 257 places, in which only higher ones follow a place
pub shallow_points : {W : Type 0} (n : ℕ) (weight : ℕ → ℕ → Option W) → n ≤ 256 → Shallow n weight (λ j. j)
shallow_points n weight few = record { deeper = λ i j w l inside e. omega arith; most = λ j inside. omega arith }

module _ {C : Type 0} where
  pub reached_made : (o : Option (Row C)) (row : Row C) → o ≡ Some row → row.reached ≡ true → reached_cost o ≡ Some row.cost
  reached_made o row here r = ap reached_cost here ∙ cond-true row.reached (Some row.cost) None r

  pub reached_parts : (o : Option (Row C)) (c : C) → reached_cost o ≡ Some c → (row : Row C) × (o ≡ Some row) × (row.reached ≡ true) × (row.cost ≡ c)
  reached_parts None c e = absurd (none-some c e)
  reached_parts (Some row) c e = let parts = cond_some row.reached row.cost c e in (row, refl, parts.0, parts.1)

  module _ (n : ℕ) (rows : List (Row C)) where
    -- a list is read back from the first rows as from all
    pub front_back : {j : ℕ} {vs : List ℕ} → j < n → ReadBack rows j vs → ReadBack (take n rows) j vs
    front_back l (first e r) = first (nth_take n rows 0 l ∙ e) r
    front_back l (next {j = j} e r m b) = next (nth_take n rows j l ∙ e) r m (front_back (omega arith) b)

    pub whole_back : {j : ℕ} {vs : List ℕ} → j < n → ReadBack (take n rows) j vs → ReadBack rows j vs
    whole_back l (first e r) = first (sym (nth_take n rows 0 l) ∙ e) r
    whole_back l (next {j = j} e r m b) = next (sym (nth_take n rows j l) ∙ e) r m (whole_back (omega arith) b)

module _ {C W : Type 0} (k : CostOf C W) (weight : ℕ → ℕ → Option W) (n : ℕ) (rows : List (Row C)) (some : 0 < n) (long : n ≤ length rows) (table : Table k weight (take n rows)) where
  front : slice_get (take n rows) (n - 1) ≡ slice_get rows (n - 1)
  front = nth_take n rows (n - 1) (omega arith)

  pub none_usable : last_cost n rows ≡ None → NoneUsable weight n
  none_usable e us u =
      let last = nth_there rows (n - 1) (omega arith) in
      let reached = (reached_stands k weight (take n rows) table (n - 1) last.0 (front ∙ last.1)).1 (us, polygon_cost k weight us, usable_path k weight n us u) in
      not_both (last_cost n rows) last.0.cost e (reached_made (slice_get rows (n - 1)) last.0 last.1 reached)

  -- where the last point is reached, a list is read back from it
  pub last_back : (c : C) → last_cost n rows ≡ Some c → (vs : List ℕ) × ReadBack rows (n - 1) vs
  last_back c e =
      let last = reached_parts (slice_get rows (n - 1)) c e in
      let back = read_back_stands k weight (take n rows) table (n - 1) last.0 (front ∙ last.1) last.2 in
      (back.0, whole_back n rows (omega arith) back.1)

  -- a list with a place for each point has room for it
  pub unread : (before : List ℕ) → n ≤ length before → ((vs : List ℕ) → ReadBack rows (n - 1) vs → length before < length vs) → last_cost n rows ≡ None
  unread before fits away = go (last_cost n rows) refl
    where
      go : (o : Option C) → last_cost n rows ≡ o → last_cost n rows ≡ None
      go None e = e
      go (Some c) e =
          let back = last_back c e in
          absurd (omega (arith, away back.0 back.1, rising_short (read_back_rising back.1)))

  module _ (few : n ≤ 256) (laws : Laws k) where
    shallow : Shallow (length (take n rows)) weight (λ j. j)
    shallow = subst (λ m. Shallow m weight (λ j. j)) (sym (length-take-le n rows long)) (shallow_points n weight few)

    pub best_read : (vs : List ℕ) (c : C) → last_cost n rows ≡ Some c → ReadBack rows (n - 1) vs → Best k weight n vs c
    best_read vs c e back =
        let last = reached_parts (slice_get rows (n - 1)) c e in
        let there : slice_get (take n rows) (n - 1) ≡ Some last.0 = front ∙ last.1 in
        let route = read_back_stands k weight (take n rows) table (n - 1) last.0 there last.2 in
        let same : route.0 ≡ vs = sym (route.3 vs (front_back n rows (omega arith) back)) in
        let path : PathTo k weight (n - 1) vs c = subst₂ (λ us d. PathTo k weight (n - 1) us d) same last.3 route.2 in
        let so = path_usable k weight n vs c some path in
        record {
          usable = so.0;
          costs = so.1;
          least = λ us u.
              subst (λ d. k.above d (polygon_cost k weight us) ≡ false) last.3
              (least_stands k laws weight (λ j. j) (take n rows) shallow table (n - 1) last.0 there us (polygon_cost k weight us) (usable_path k weight n us u));
        }

    pub least_cost : LeastCost k weight n (last_cost n rows)
    least_cost = go (last_cost n rows) refl
      where
        go : (o : Option C) → last_cost n rows ≡ o → LeastCost k weight n o
        go None e = none_usable e
        go (Some c) e = let back = last_back c e in (back.0, best_read back.0 c e back.1)

    -- the polygon at the front of the list
    pub best_found : (before after : List ℕ) (found : Found C) → ReadOut n rows before after (Some found) → Best k weight n (take found.vertices after) found.cost
    best_found before after found so =
        let front_is : take found.vertices after ≡ so.0 = ap (take found.vertices) so.4 ∙ take_at so.0 (drop (length so.0) before) found.vertices so.2 in
        subst (λ vs. Best k weight n vs found.cost) (sym front_is) (best_read so.0 found.cost so.5 so.1)

    -- what is read from the filled rows is the answer
    pub read_answered : (rows_before : List (Row C)) (before after : List ℕ) (found : Option (Found C)) → n ≤ length before → Filled k weight n rows_before rows true → ReadOut n rows before after found →
        Answered k weight n rows_before rows before after (ok_or found NoUsable) × BestAnswered k weight n after (ok_or found NoUsable)
    read_answered rows_before before after None fits filled so =
        let none = unread before fits so.0 in
        (inr (inr (refl, fits, filled, none, so.1)), (refl, none_usable none))
    read_answered rows_before before after (Some found) fits filled so = ((fits, filled, so), best_found before after found so)
