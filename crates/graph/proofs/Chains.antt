-- The list read back from a place of any rows.
use Rattle.std.proofs.Common.{◌≡◌, ℕ, ◌+◌, ◌<◌, true, ◌&&◌, ltb, List, [], ◌∷◌, ◌++◌, length, get_or, take, drop, set, Some, None, Option, sym, refl, ap, ◌∙◌, subst, arith}
use Rattle.std.proofs.lemmas.Option.{cond_some, none-some, slice_get_within}
use Rattle.std.proofs.lemmas.List.{take_more, drop_more, drop-set, length-take-le, same_from_push}
use Rattle.std.proofs.lemmas.Bool.{and_parts, and_from, ltb-true, lt-ltb, cond-true}
use Rattle.std.specs.List.{slice_get}
use Rattle.graph.proofs.Options.{same_value}
use Rattle.graph.specs.Paths.{ReadBack, Rising}
use Rattle.graph.specs.Steps.{previous}
use Rattle.graph.specs.Paths.ReadBack.{first, next}
use Rattle.graph.specs.Paths.Rising.{alone, higher}
use Rattle.graph.specs.declared.Row.{Row}

-- the place before, where there is one
previous_parts : {C : Type 0} (o : Option (Row C)) (j p : ℕ) → previous o j ≡ Some p → (row : Row C) × (o ≡ Some row) × (row.reached ≡ true) × (row.predecessor < j) × (row.predecessor ≡ p)
previous_parts None j p h = absurd (none-some p h)
previous_parts (Some row) j p h =
    let parts = cond_some (row.reached && ltb row.predecessor j) row.predecessor p h in
    let tests = and_parts row.reached (ltb row.predecessor j) parts.0 in
    (row, refl, tests.0, ltb-true row.predecessor j tests.1, parts.1)

pub previous_made : {C : Type 0} (row : Row C) (j : ℕ) → row.reached ≡ true → row.predecessor < j → previous (Some row) j ≡ Some row.predecessor
previous_made row j r l = cond-true _ _ _ (and_from row.reached (ltb row.predecessor j) r (lt-ltb _ _ l))

pub previous_lower : {C : Type 0} (o : Option (Row C)) (j p : ℕ) → previous o j ≡ Some p → p < j
previous_lower o j p h = let parts = previous_parts o j p h in let low = parts.3 in let same = parts.4 in omega arith

module _ {C : Type 0} {rows : List (Row C)} where
  -- it begins at a reached place
  pub read_back_reached : {j : ℕ} {vs : List ℕ} → ReadBack rows j vs → (row : Row C) × (slice_get rows j ≡ Some row) × (row.reached ≡ true)
  read_back_reached (first {row = row} e r) = (row, e, r)
  read_back_reached (next {row = row} e r l b) = (row, e, r)

  pub read_back_rising : {j : ℕ} {vs : List ℕ} → ReadBack rows j vs → Rising j vs
  read_back_rising (first e r) = alone
  read_back_rising (next e r l b) = higher (read_back_rising b) l

  -- there is at most one
  pub one_read_back : {j : ℕ} {us vs : List ℕ} → ReadBack rows j us → ReadBack rows j vs → us ≡ vs
  one_read_back (first e r) (first f s) = refl
  one_read_back (first e r) (next f s l b) = absurd (omega arith)
  one_read_back (next e r l a) (first f s) = absurd (omega arith)
  one_read_back (next {j = j} {row = x} e r l a) (next {row = y} {vs = vs} f s m b) =
      ap (λ ws. ws ++ (j ∷ [])) (one_read_back a (subst (λ z. ReadBack rows z.predecessor vs) (same_value (slice_get rows j) y x f e) b))

  -- the place that it begins at, and what stands before it
  pub read_back_parts : {j : ℕ} {us : List ℕ} (row : Row C) → slice_get rows j ≡ Some row → ReadBack rows j us →
      (ws : List ℕ) × (us ≡ ws ++ (j ∷ [])) × (0 < length ws → (row.predecessor < j) × ReadBack rows row.predecessor ws)
  read_back_parts row here (first e r) = ([], refl, λ l. absurd (omega arith))
  read_back_parts row here (next {j = j} {row = x} {vs = vs} e r l b) =
      (vs, refl, λ _. subst (λ z. (z.predecessor < j) × ReadBack rows z.predecessor vs) (same_value (slice_get rows j) x row e here) (l, b))

  -- one place more of the list, written before those that are written
  pub write_more : {j : ℕ} (row : Row C) (vs list : List ℕ) (n : ℕ) → slice_get rows j ≡ Some row → ReadBack rows j (take (n + 1) vs) → n < length vs → n < length list →
      drop (n + 1) list ≡ drop (n + 1) vs →
      (0 < n → (row.predecessor < j) × ReadBack rows row.predecessor (take n vs)) × (drop n (set list n j) ≡ drop n vs)
  write_more {j} row vs list n here back l m rest =
      let parts = read_back_parts row here back in
      let same = same_from_push (take n vs) parts.0 (get_or vs n 0) j (sym (take_more vs n 0 l) ∙ parts.1) in
      let long : length (take n vs) ≡ n = length-take-le n vs (omega arith) in
      let before : 0 < length parts.0 → (row.predecessor < j) × ReadBack rows row.predecessor parts.0 = parts.2 in (
        (λ some. subst (λ ws. (row.predecessor < j) × ReadBack rows row.predecessor ws) (sym same.0) (before (omega (arith, ap length same.0)))),
        drop-set list n j m ∙ ap (λ x. x ∷ drop (n + 1) list) (sym same.1) ∙ ap (λ xs. get_or vs n 0 ∷ xs) rest ∙ sym (drop_more vs n 0 l),
      )

  -- a list to the place before, and then the place
  pub list_on : (j p : ℕ) (us : List ℕ) → previous (slice_get rows j) j ≡ Some p → ReadBack rows p us → ReadBack rows j (us ++ (j ∷ []))
  list_on j p us h back = let o = previous_parts (slice_get rows j) j p h in next o.1 o.2 o.3 (subst (λ q. ReadBack rows q us) (sym o.4) back)

  -- a list to a later place has one to the place before
  pub list_back : {j : ℕ} {vs : List ℕ} → 0 < j → ReadBack rows j vs → (p : ℕ) × (previous (slice_get rows j) j ≡ Some p) × (us : List ℕ) × ReadBack rows p us
  list_back l (first e r) = absurd (omega arith)
  list_back l (next {j = j} {row = row} {vs = vs} e r m b) = (row.predecessor, ap (λ o. previous o j) e ∙ previous_made row j r m, vs, b)

  pub read_back_inside : {j : ℕ} {vs : List ℕ} → ReadBack rows j vs → j < length rows
  read_back_inside {j} b = let near = read_back_reached b in slice_get_within rows j near.0 near.1
