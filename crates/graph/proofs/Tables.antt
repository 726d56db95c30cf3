-- Tables by the rule: there is one, and it grows row by row.
use Rattle.std.proofs.Common.{◌≡◌, ℕ, zero, suc, ◌<◌, Bool, List, [], ◌∷◌, ◌++◌, length, Some, Option, sym, ap, ◌∙◌, subst, inl, inr, arith, length-append}
use Rattle.cost.specs.Cost.{CostOf}
use Rattle.std.proofs.iter.runs.Lists.{same_Some, slice_get_within, nth_left, nth_seam}
use Rattle.std.proofs.iter.runs.Strides.{nth_beyond}
use Rattle.std.proofs.lemmas.Bool.{both_ways, cases_eq, cases_lt, cases_order}
use Rattle.std.specs.List.{slice_get}
use Rattle.graph.proofs.Options.{not_both, same_value, nth_there, same_by_nth}
use Rattle.graph.specs.Rows.{offer, from_row, Least, LaterRow, RowRule, Table}
use Rattle.graph.specs.Theorems.{OneTable}
use Rattle.graph.specs.declared.Row.{Row}

same_row : {C : Type 0} (r s : Row C) → r.reached ≡ s.reached → r.cost ≡ s.cost → r.predecessor ≡ s.predecessor → r ≡ s
same_row {C} r s p q t =
    ap (λ b. row b r.cost r.predecessor) p ∙ ap (λ c. row s.reached c r.predecessor) q ∙ ap (row s.reached s.cost) t
  where
    row : Bool → C → ℕ → Row C
    row b c n = record { reached = b; cost = c; predecessor = n }

module _ {C W : Type 0} (k : CostOf C W) where
  -- two least offers of the same offers are one
  same_least : (f g : ℕ → Option C) (n p q : ℕ) (c d : C) → ((i : ℕ) → i < n → f i ≡ g i) → Least k f n p c → Least k g n q d → (p ≡ q) × (c ≡ d)
  same_least f g n p q c d e a b = elim (cases_order p q) [
    | inl s ↦ (s, same_value (g q) c d (sym (e q b.lower) ∙ ap f (sym s) ∙ a.gives) b.gives)
    | inr o ↦ elim o [
      | inl l ↦ absurd (both_ways _ (a.least q d b.lower (e q b.lower ∙ b.gives)) (b.lowest p c l (sym (e p a.lower) ∙ a.gives)))
      | inr l ↦ absurd (both_ways _ (b.least p c a.lower (sym (e p a.lower) ∙ a.gives)) (a.lowest q d l (e q b.lower ∙ b.gives)))
    ]
  ]

  same_later : (f g : ℕ → Option C) (n : ℕ) (r s : Row C) → ((i : ℕ) → i < n → f i ≡ g i) → LaterRow k f n r → LaterRow k g n s → r ≡ s
  same_later f g n r s e (inl a) (inl b) = a.0 ∙ sym b.0
  same_later f g n r s e (inl a) (inr b) = let l = b.1.lower in absurd (not_both (g s.predecessor) s.cost (sym (e _ l) ∙ a.1 _ l) b.1.gives)
  same_later f g n r s e (inr a) (inl b) = let l = a.1.lower in absurd (not_both (f r.predecessor) r.cost (e _ l ∙ b.1 _ l) a.1.gives)
  same_later f g n r s e (inr a) (inr b) = let both = same_least f g n _ _ _ _ e a.1 b.1 in same_row r s (a.0 ∙ sym b.0) both.1 both.0

  module _ (edge : ℕ → ℕ → Option W) where
    -- lower rows alone decide a row
    pub same_offers : (rows others : List (Row C)) (j i : ℕ) → slice_get rows i ≡ slice_get others i → offer k edge rows i j ≡ offer k edge others i j
    same_offers rows others j i e = ap (λ r. from_row k r (edge i j)) e

    pub same_rule : (rows others : List (Row C)) (j : ℕ) (r s : Row C) → ((i : ℕ) → i < j → slice_get rows i ≡ slice_get others i) → RowRule k edge rows j r → RowRule k edge others j s → r ≡ s
    same_rule rows others zero r s e a b = a ∙ sym b
    same_rule rows others (suc j) r s e a b = same_later _ _ (suc j) r s (λ i l. same_offers rows others (suc j) i (e i l)) a b

    module _ (rows others : List (Row C)) (long : length rows ≡ length others) (t : Table k edge rows) (u : Table k edge others) where
      one_row : (n : ℕ) → ((i : ℕ) → i < n → slice_get rows i ≡ slice_get others i) → slice_get rows n ≡ slice_get others n
      one_row n below = elim (cases_lt n (length rows)) [
        | inl l ↦ (let a = nth_there rows n l in let b = nth_there others n (omega arith) in
            a.1 ∙ ap Some (same_rule rows others n a.0 b.0 below (t n _ a.1) (u n _ b.1)) ∙ sym b.1)
        | inr g ↦ nth_beyond rows n g ∙ sym (nth_beyond others n (omega arith))
      ]

      all_rows : (n i : ℕ) → i < n → slice_get rows i ≡ slice_get others i
      all_rows zero i l = absurd (omega arith)
      all_rows (suc n) i l = elim (cases_eq i n) [
        | inl e ↦ subst (λ m. slice_get rows m ≡ slice_get others m) (sym e) (one_row n (all_rows n))
        | inr d ↦ all_rows n i (omega (arith, d))
      ]

      same_table : rows ≡ others
      same_table = same_by_nth rows others (λ i. all_rows (suc i) i (omega arith))

    -- what the rule says is the same over rows that agree below
    moved_later : (f g : ℕ → Option C) (n : ℕ) (r : Row C) → ((i : ℕ) → i < n → f i ≡ g i) → LaterRow k f n r → LaterRow k g n r
    moved_later f g n r e (inl a) = inl (a.0, λ i l. sym (e i l) ∙ a.1 i l)
    moved_later f g n r e (inr a) =
        let low = a.1.lower in
        inr (
          a.0,
          record {
            lower = low;
            gives = sym (e _ low) ∙ a.1.gives;
            least = λ i d l o. a.1.least i d l (e i l ∙ o);
            lowest = λ i d l o. a.1.lowest i d l (e i (omega arith) ∙ o);
          },
        )

    pub moved_rule : (rows others : List (Row C)) (j : ℕ) (r : Row C) → ((i : ℕ) → i < j → slice_get rows i ≡ slice_get others i) → RowRule k edge rows j r → RowRule k edge others j r
    moved_rule rows others zero r e a = a
    moved_rule rows others (suc j) r e a = moved_later _ _ (suc j) r (λ i l. same_offers rows others (suc j) i (e i l)) a

    -- a table with the row of the next place is a table
    pub table_push : (rows : List (Row C)) (r : Row C) → Table k edge rows → RowRule k edge rows (length rows) r → Table k edge (rows ++ (r ∷ []))
    table_push rows r t rule j s here = elim (cases_lt j (length rows)) [
      | inl l ↦ moved_rule rows _ j s (λ i m. sym (nth_left rows _ i (omega arith))) (t j s (sym (nth_left rows _ j l) ∙ here))
      | inr g ↦ last (omega (arith, slice_get_within (rows ++ (r ∷ [])) j s here, length-append rows (r ∷ [])))
    ]
      where
        last : j ≡ length rows → RowRule k edge (rows ++ (r ∷ [])) j s
        last e =
            let same : r ≡ s = same_Some r s (sym (nth_seam rows r) ∙ ap (slice_get (rows ++ (r ∷ []))) (sym e) ∙ here) in
            subst (λ x. RowRule k edge (rows ++ (r ∷ [])) j x) same
            (subst (λ m. RowRule k edge (rows ++ (r ∷ [])) m r) (sym e) (moved_rule rows _ (length rows) r (λ i m. sym (nth_left rows _ i m)) rule))

  pub one_table : OneTable k
  one_table edge rows others long t u = same_table edge rows others long t u
