-- From the rows and the list that are read to what the rules say of them.
use Rattle.std.proofs.Common.{◌≡◌, ℕ, ◌-◌, ◌<◌, ◌≤◌, Bool, true, false, cond, ltb, List, ◌++◌, length, get_or, drop, Some, None, Ok, Err, sym, refl, ap, ◌∙◌, subst, arith}
use Rattle.graph.proofs.Chains.{read_back_reached, read_back_inside}
use Rattle.graph.proofs.Options.{same_value}
use Rattle.graph.specs.Paths.{ReadBack, Listed}
use Rattle.graph.specs.declared.Row.{Row}
use Rattle.outline.specs.declared.refusal.Refusal.TheVariants.{ListShort, RowsShort}
use Rattle.std.proofs.lemmas.Bool.{ltb-false}
use Rattle.std.proofs.lemmas.Option.{slice_get_read}
use Rattle.std.specs.Bool.{then_some}
use Rattle.std.specs.List.{slice_get}
use Rattle.search.proofs.Bests.{reached_made}
use Rattle.search.specs.Rules.{room, reached_cost, last_cost, ReadOut}

pub room_fits : (n rows list : ℕ) (u : Unit {0}) → Ok u ≡ room n rows list → (n ≤ rows) × (n ≤ list)
room_fits n rows list u e = go (ltb rows n) refl (ltb list n) refl e
  where
    go : (a : Bool) → ltb rows n ≡ a → (b : Bool) → ltb list n ≡ b → Ok u ≡ cond a (Err RowsShort) (cond b (Err ListShort) (Ok tt)) → (n ≤ rows) × (n ≤ list)
    go true p b q h = let z : ◌≡◌ {A = ℕ} 0 1 = cc in absurd (omega arith)
    go false p true q h = let z : ◌≡◌ {A = ℕ} 0 1 = cc in absurd (omega arith)
    go false p false q h = (ltb-false rows n p, ltb-false list n q)

module _ {C : Type 0} (n m : ℕ) (number : m ≡ n) (rows : List (Row C)) where
  last_is : slice_get rows (m - 1) ≡ slice_get rows (n - 1)
  last_is = ap (λ q. slice_get rows (q - 1)) number

  module _ (row : Row C) (inside : m - 1 < length rows) (read : row ≡ get_or rows (m - 1) row) where
    last_row : slice_get rows (n - 1) ≡ Some row
    last_row = sym last_is ∙ slice_get_read rows (length rows) (m - 1) row refl inside read

    pub reached_last : row.reached ≡ true → last_cost n rows ≡ Some row.cost
    reached_last r = reached_made (slice_get rows (n - 1)) row last_row r

    pub last_read : then_some row.reached row.cost ≡ last_cost n rows
    last_read = go row.reached ∙ sym (ap reached_cost last_row)
      where
        go : (b : Bool) → then_some b row.cost ≡ cond b (Some row.cost) None
        go true = refl
        go false = refl

  module _ (before after : List ℕ) where
    pub unlisted : n ≤ 256 → Listed rows (m - 1) before after None → ReadOut n rows before after None
    unlisted few so = (
      (λ vs back. so.0 vs (subst (λ q. ReadBack rows (q - 1) vs) (sym number) back) (omega arith)),
      so.1,
    )

    pub listed : (vertices : ℕ) (row : Row C) → row ≡ get_or rows (m - 1) row → Listed rows (m - 1) before after (Some vertices) →
        ReadOut n rows before after (Some (record { vertices = vertices; cost = row.cost }))
    listed vertices row read so =
        let near = read_back_reached so.1 in
        let inside : m - 1 < length rows = read_back_inside so.1 in
        let same : near.0 ≡ row = same_value (slice_get rows (m - 1)) near.0 row near.1 (slice_get_read rows (length rows) (m - 1) row refl inside read) in
        let long = so.2 in
        let fits = so.3 in (
          so.0,
          subst (λ q. ReadBack rows (q - 1) so.0) number so.1,
          so.2,
          omega arith,
          so.4 ∙ ap (λ q. so.0 ++ drop q before) (sym so.2),
          reached_last row inside read (subst (λ (x : Row C). x.reached ≡ true) same near.2),
        )
