-- Codes one after the other: one more at the end, and what begins a row of bits.
use Rattle.std.proofs.Common.{◌≡◌, ℕ, ◌≤◌, Bool, List, [], ◌∷◌, ◌++◌, length, get_or, take, drop, ℤ, pos, ◌+ℤ◌, Some, None, Option, sym, refl, ap, ◌∙◌, append_assoc, arith, length-take}
use Rattle.std.proofs.lemmas.List.{take-append-drop, take_at, append-nil}
use Rattle.std.proofs.lemmas.Int.{ints}
use Rattle.std.specs.Option.{option_map}
use Rattle.outline.specs.declared.point.Point.{Point}
use Rattle.outline.specs.Moves.{within, displaced}
use Rattle.outline.proofs.Kept.{both_parts, within_is}
use Rattle.coding.specs.Bits.{Begins}
use Rattle.coding.specs.Tables.{Table}
use Rattle.records.specs.Bytes.{cols, rows, joined_codes, codes_from}

-- a displaced point is as far away as it was displaced
pub displaced_by : (w h : ℕ) (u : Point) (x y : ℤ) (v : Point) → displaced w h u x y ≡ Some v → (cols u v ≡ x) × (rows u v ≡ y)
displaced_by w h u x y v e =
    let parts = both_parts (within w (pos u.col +ℤ x)) (within h (pos u.row +ℤ y)) v e in
    let a = within_is w (pos u.col +ℤ x) v.col parts.0 in
    let b = within_is h (pos u.row +ℤ y) v.row parts.1 in
    (omega (arith, ints), omega (arith, ints))

-- what begins a row is followed by the rest of it
pub begins_rest : (code row : List Bool) → Begins code row → row ≡ code ++ drop (length code) row
begins_rest code row b = sym (take-append-drop (length code) row) ∙ ap (λ front. front ++ drop (length code) row) b

pub begins_from : (code rest row : List Bool) → row ≡ code ++ rest → Begins code row
begins_from code rest row e = ap (take (length code)) e ∙ take_at code rest (length code) refl

-- a code after others
pub begins_more : (codes code row : List Bool) → Begins codes row → Begins code (drop (length codes) row) → Begins (codes ++ code) row
begins_more codes code row b more =
    let rest = drop (length codes) row in
    begins_from (codes ++ code) (drop (length code) rest) row
    (begins_rest codes row b ∙ ap (λ r. codes ++ r) (begins_rest code rest more) ∙ sym (append_assoc codes code (drop (length code) rest)))

pub begins_short : (code row : List Bool) → Begins code row → length code ≤ length row
begins_short code row b = omega (arith, length-take (length code) row, ap length b)

abbrev pub last_of : Point → List Point → Point
last_of u [] = u
last_of u (v ∷ vs) = last_of v vs

pub last_is : (u : Point) (vs : List Point) (d : Point) → get_or (u ∷ vs) (length vs) d ≡ last_of u vs
last_is u [] d = refl
last_is u (v ∷ vs) d = last_is v vs d

joined_one : (code codes more : List Bool) (o : Option (List Bool)) → o ≡ Some (codes ++ more) → joined_codes (Some code) o ≡ Some ((code ++ codes) ++ more)
joined_one code codes more o e = ap (option_map (λ cs. code ++ cs)) e ∙ ap Some (sym (append_assoc code codes more))

-- codes that are there in a row of them: the first and the others
pub codes_parts : (first rest : Option (List Bool)) (all : List Bool) → joined_codes first rest ≡ Some all → (code : List Bool) × (codes : List Bool) × (first ≡ Some code) × (rest ≡ Some codes) × (all ≡ code ++ codes)
codes_parts (Some code) (Some codes) all e = (code, codes, refl, refl, (cc))
codes_parts (Some code) None all e = let z : ◌≡◌ {A = ℕ} 0 1 = cc in absurd (omega arith)
codes_parts None rest all e = let z : ◌≡◌ {A = ℕ} 0 1 = cc in absurd (omega arith)

pub codes_push : (t : Table) (u : Point) (vs : List Point) (v : Point) (codes code : List Bool) → codes_from t u vs ≡ Some codes → t (cols (last_of u vs) v) (rows (last_of u vs) v) ≡ Some code → codes_from t u (vs ++ v ∷ []) ≡ Some (codes ++ code)
codes_push t u [] v codes code e f =
    let none : [] ≡ codes = cc in
    ap (λ c. joined_codes c (Some [])) f ∙ ap Some (append-nil code ∙ ap (λ c. c ++ code) none)
codes_push t u (w ∷ ws) v codes code e f =
    let parts = codes_parts (t (cols u w) (rows u w)) (codes_from t w ws) codes e in
    let rest = codes_push t w ws v parts.1 code parts.3 f in
    ap (λ c. joined_codes c (codes_from t w (ws ++ v ∷ []))) parts.2
    ∙ joined_one parts.0 parts.1 code (codes_from t w (ws ++ v ∷ [])) rest
    ∙ ap (λ c. Some (c ++ code)) (sym parts.4)
