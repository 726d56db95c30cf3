-- Counting the places of a list from its end.
use Rattle.std.proofs.Common.{◌≡◌, ℕ, ◌+◌, ◌<◌, ◌≤◌, Bool, true, false, List, [], ◌∷◌, ◌++◌, length, Some, None, MatchOption, sym, refl, ap, ◌∙◌, subst, append_assoc, arith}
use Rattle.std.specs.Bool.{then_some}
use Rattle.std.proofs.lemmas.Bool.{both_ways}
use Rattle.std.specs.List.{slice_get}
use Rattle.graph.proofs.Chains.{previous_lower, list_on, list_back, read_back_reached}
use Rattle.graph.proofs.Options.{not_both, same_value}
use Rattle.graph.specs.Paths.{ReadBack}
use Rattle.graph.specs.Steps.{previous}
use Rattle.graph.specs.Paths.ReadBack.{first}
use Rattle.graph.specs.declared.Row.{Row}

-- So many places are counted, and the list goes on from a place to those after it.
abbrev pub Counted : {C : Type 0} → List (Row C) → ℕ → ℕ → ℕ → Type 0
Counted rows to at count =
    (tail : List ℕ) × (length tail + 1 ≡ count) × (count + at ≤ to + 1)
    × ((us : List ℕ) → ReadBack rows at us → ReadBack rows to (us ++ tail))
    × ((vs : List ℕ) → ReadBack rows to vs → (us : List ℕ) × ReadBack rows at us)

module _ {C : Type 0} (rows : List (Row C)) (to : ℕ) where
  module _ (at count : ℕ) (so : Counted rows to at count) where
    pub counted_more : (p : ℕ) → 0 < at → previous (slice_get rows at) at ≡ Some p → Counted rows to p (count + 1)
    counted_more p l h =
        let tail = so.0 in
        let long = so.1 in
        let room = so.2 in
        let low = previous_lower (slice_get rows at) at p h in (
          at ∷ tail,
          omega arith,
          omega arith,
          (λ us b. subst (ReadBack rows to) (append_assoc us (at ∷ []) tail) (so.3 (us ++ (at ∷ [])) (list_on at p us h b))),
          (λ vs b. let near = list_back l (so.4 vs b).1 in (near.2, subst (λ q. ReadBack rows q near.2) (same_value (previous (slice_get rows at) at) near.0 p near.1 h) near.3)),
        )

    pub counted_stops : 0 < at → previous (slice_get rows at) at ≡ None → (vs : List ℕ) → ReadBack rows to vs → ⊥
    counted_stops l h vs b = let near = list_back l (so.4 vs b).1 in not_both (previous (slice_get rows at) at) near.0 h near.1

    pub counted_away : at ≡ 0 → ((row : Row C) → slice_get rows 0 ≡ Some row → row.reached ≡ true → ⊥) → (vs : List ℕ) → ReadBack rows to vs → ⊥
    counted_away e away vs b =
        let near = read_back_reached (so.4 vs b).1 in
        away near.0 (ap (slice_get rows) (sym e) ∙ near.1) near.2

    -- at place 0 all are counted, where it is reached
    pub counted_all : (row : Row C) → at ≡ 0 → slice_get rows 0 ≡ Some row →
        MatchOption (then_some row.reached count) ((vs : List ℕ) → ReadBack rows to vs → ⊥) (λ n. (vs : List ℕ) × ReadBack rows to vs × (length vs ≡ n))
    counted_all row e here = go row.reached refl
      where
        go : (b : Bool) → row.reached ≡ b → MatchOption (then_some b count) ((vs : List ℕ) → ReadBack rows to vs → ⊥) (λ n. (vs : List ℕ) × ReadBack rows to vs × (length vs ≡ n))
        go true r = let long = so.1 in (0 ∷ so.0, so.3 (0 ∷ []) (subst (λ j. ReadBack rows j (0 ∷ [])) (sym e) (first here r)), omega arith)
        go false r = counted_away e (λ x there reached. both_ways x.reached (ap (λ y. y.reached) (same_value (slice_get rows 0) x row there here) ∙ r) reached)
