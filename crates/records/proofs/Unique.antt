-- A row of bits spells one list of vertices: codes that begin it lead to the same vertices.
use Rattle.std.proofs.Common.{◌≡◌, ℕ, ◌≤◌, Bool, List, [], ◌∷◌, ◌++◌, length, take, ℤ, pos, ◌-ℤ◌, Some, sym, refl, ap, ◌∙◌, subst, ap₂, ⊎_elim, append_assoc, arith}
use Rattle.std.proofs.lemmas.List.{append_cancel_left, take_at, take-append-le}
use Rattle.std.proofs.lemmas.Int.{ints}
use Rattle.std.proofs.lemmas.Bool.{cases_lt}
use Rattle.outline.specs.declared.point.Point.{Point}
use Rattle.coding.specs.Bits.{Begins}
use Rattle.coding.specs.Tables.{Table, Codes}
use Rattle.records.specs.Bytes.{cols, rows, codes_from}
use Rattle.records.proofs.Parts.{same_point}
use Rattle.records.proofs.Spelling.{codes_parts, last_of}

-- of two fronts of a row the shorter begins the longer
pub begins_longer : (a b x y : List Bool) → a ++ x ≡ b ++ y → length a ≤ length b → Begins a b
begins_longer a b x y e l = sym (take-append-le (length a) b y l) ∙ ap (take (length a)) (sym e) ∙ take_at a x (length a) refl

-- codes that begin one row are of one displacement
pub one_displacement : (t : Table) → Codes t → (x y x' y' : ℤ) (a b r s : List Bool) → t x y ≡ Some a → t x' y' ≡ Some b → a ++ r ≡ b ++ s → (x ≡ x') × (y ≡ y')
one_displacement t keeps x y x' y' a b r s p q e =
    ⊎_elim
    (λ l. keeps.apart x y x' y' a b p q (begins_longer a b r s e (omega arith)))
    (λ l. let back = keeps.apart x' y' x y b a q p (begins_longer b a s r (sym e) l) in (sym back.0, sym back.1))
    (cases_lt (length a) (length b))

same_end : (a b c : ℕ) → pos b -ℤ pos a ≡ pos c -ℤ pos a → b ≡ c
same_end a b c e = omega (arith, ints)

pub same_vertex : (u v w : Point) → cols u v ≡ cols u w → rows u v ≡ rows u w → v ≡ w
same_vertex u v w p q = same_point v.col w.col v.row w.row (same_end u.col v.col w.col p) (same_end u.row v.row w.row q)

-- what the longer of two lists of vertices in one row has past the shorter
pub record Goes_on (t : Table) (u : Point) (vs ws : List Point) (codes codes' : List Bool) : Type 0 where
  pub rest : List Point
  pub same : ws ≡ vs ++ rest
  pub more : List Bool
  pub coded : codes_from t (last_of u vs) rest ≡ Some more
  pub after : codes' ≡ codes ++ more

goes_on_more : (t : Table) (u v : Point) (vs ws : List Point) (code codes codes' : List Bool) → Goes_on t v vs ws codes codes' → Goes_on t u (v ∷ vs) (v ∷ ws) (code ++ codes) (code ++ codes')
goes_on_more t u v vs ws code codes codes' g =
    record {
      rest = g.rest;
      same = ap (λ xs. v ∷ xs) g.same;
      more = g.more;
      coded = g.coded;
      after = ap (λ xs. code ++ xs) g.after ∙ sym (append_assoc code codes g.more);
    }

pub one_spelling : (t : Table) → Codes t → (u : Point) (vs ws : List Point) (codes codes' r r' : List Bool) → codes_from t u vs ≡ Some codes → codes_from t u ws ≡ Some codes'
    → codes ++ r ≡ codes' ++ r' → length vs ≤ length ws → Goes_on t u vs ws codes codes'
one_spelling t keeps u [] ws codes codes' r r' p q e l =
    let none : [] ≡ codes = cc in
    record { rest = ws; same = refl; more = codes'; coded = q; after = ap (λ c. c ++ codes') none }
one_spelling t keeps u (v ∷ vs) [] codes codes' r r' p q e l = absurd (omega arith)
one_spelling t keeps u (v ∷ vs) (w ∷ ws) codes codes' r r' p q e l =
    let a = codes_parts (t (cols u v) (rows u v)) (codes_from t v vs) codes p in
    let b = codes_parts (t (cols u w) (rows u w)) (codes_from t w ws) codes' q in
    let row : a.0 ++ (a.1 ++ r) ≡ b.0 ++ (b.1 ++ r') =
    sym (append_assoc a.0 a.1 r) ∙ ap (λ c. c ++ r) (sym a.4) ∙ e ∙ ap (λ c. c ++ r') b.4 ∙ append_assoc b.0 b.1 r' in
    let by = one_displacement t keeps _ _ _ _ a.0 b.0 (a.1 ++ r) (b.1 ++ r') a.2 b.2 row in
    let same : v ≡ w = same_vertex u v w by.0 by.1 in
    let both : Some a.0 ≡ Some b.0 = sym a.2 ∙ ap₂ t by.0 by.1 ∙ b.2 in
    let code : a.0 ≡ b.0 = cc in
    let left : a.1 ++ r ≡ b.1 ++ r' = append_cancel_left a.0 (a.1 ++ r) (b.1 ++ r') (row ∙ ap (λ c. c ++ (b.1 ++ r')) (sym code)) in
    let rest : codes_from t v ws ≡ Some b.1 = ap (λ x. codes_from t x ws) same ∙ b.3 in
    let on : Goes_on t u (v ∷ vs) (v ∷ ws) (a.0 ++ a.1) (a.0 ++ b.1) = goes_on_more t u v vs ws a.0 a.1 b.1 (one_spelling t keeps v vs ws a.1 b.1 r r' a.3 rest left (omega arith)) in
    subst (λ c. Goes_on t u (v ∷ vs) (w ∷ ws) c codes') (sym a.4)
    (subst (λ c. Goes_on t u (v ∷ vs) (w ∷ ws) (a.0 ++ a.1) c) (ap (λ c. c ++ b.1) code ∙ sym b.4)
    (subst (λ x. Goes_on t u (v ∷ vs) (x ∷ ws) (a.0 ++ a.1) (a.0 ++ b.1)) same on))
