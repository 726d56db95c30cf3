-- The prices of the edges added up along the vertices, and along the list of their numbers.
use Rattle.std.proofs.Common.{◌≡◌, ℕ, suc, ◌+◌, ◌<◌, ◌≤◌, Bool, ◌&&◌, ltb, List, [], ◌∷◌, map, length, get_or, drop, Some, None, fold, Option, unwrap_or, sym, refl, ap, ◌∙◌, zero-add, arith, length-append}
use Rattle.std.proofs.lemmas.Bool.{and_from, cond-true, lt-ltb}
use Rattle.std.specs.Option.{option_map}
use Rattle.outline.specs.declared.point.Point.{Point}
use Rattle.outline.specs.Held.{origin}
use Rattle.outline.specs.Polygon.{edges}
use Rattle.coding.specs.Tables.{Table, Codes, price_of}
use Rattle.weighing.specs.Edges.{edge_price}
use Rattle.records.specs.Bytes.{cols, rows, codes_from}
use Rattle.records.specs.Laws.{EdgeBitsAreCodes}
use Rattle.records.specs.Writing.{vertices, added, bits_from}
use Rattle.records.proofs.Polygons.{polygon_below, vertices_more}
use Rattle.records.proofs.Spelling.{codes_parts}

-- one price more is added
added_more : (b p : ℕ) (first rest : Option ℕ) → Some p ≡ first → option_map (λ n. b + p + n) rest ≡ option_map (λ n. b + n) (added first rest)
added_more b p (Some q) (Some n) e =
    let is : p ≡ q = cc in
    ap Some (omega (arith, is))
added_more b p (Some q) None e = refl
added_more b p None rest e = let z : ◌≡◌ {A = ℕ} 0 1 = cc in absurd (omega arith)

added_none : (b : ℕ) (first rest : Option ℕ) → None ≡ first → None ≡ option_map (λ n. b + n) (added first rest)
added_none b (Some p) rest e = let z : ◌≡◌ {A = ℕ} 0 1 = cc in absurd (omega arith)
added_none b None rest e = refl

module _ (t : Table) (u : Point) (ps : List Point) (rest : List ℕ) (k b : ℕ) (all : Option ℕ) (so_far : option_map (λ n. b + n) (bits_from t u (vertices ps (drop k rest))) ≡ all) where
  module _ (v : Point) (l : k < length rest) (next : v ≡ get_or ps (get_or rest k 0) origin) where
    pub bits_more : (p : ℕ) → Some p ≡ price_of (t (cols u v) (rows u v)) → option_map (λ n. b + p + n) (bits_from t v (vertices ps (drop (k + 1) rest))) ≡ all
    bits_more p price =
        added_more b p _ (bits_from t v (vertices ps (drop (k + 1) rest))) price
        ∙ ap (λ vs. option_map (λ n. b + n) (bits_from t u vs)) (sym (vertices_more ps rest k v l next)) ∙ so_far

    pub bits_none : None ≡ price_of (t (cols u v) (rows u v)) → None ≡ all
    bits_none price =
        added_none b _ (bits_from t v (vertices ps (drop (k + 1) rest))) price
        ∙ ap (λ vs. option_map (λ n. b + n) (bits_from t u vs)) (sym (vertices_more ps rest k v l next)) ∙ so_far

-- a price is the length of a code
pub some_price : (o : Option (List Bool)) (p : ℕ) → Some p ≡ price_of o → (code : List Bool) × (o ≡ Some code) × (p ≡ length code)
some_price (Some code) p e = (code, refl, (cc))
some_price None p e = let z : ◌≡◌ {A = ℕ} 0 1 = cc in absurd (omega arith)

pub none_price : (o : Option (List Bool)) → None ≡ price_of o → o ≡ None
none_price (Some code) n = let z : ◌≡◌ {A = ℕ} 0 1 = cc in absurd (omega arith)
none_price None n = refl

pub price_small : (t : Table) → Codes t → (u v : Point) (p : ℕ) → Some p ≡ price_of (t (cols u v) (rows u v)) → p ≤ 32
price_small t keeps u v p e =
    let s = some_price (t (cols u v) (rows u v)) p e in
    omega (arith, (keeps.sized (cols u v) (rows u v) s.0 s.1).1, s.2)

module _ (t : Table) (ps : List Point) where
  abbrev adds : ℕ → ℕ × ℕ → ℕ
  adds m e = m + unwrap_or (edge_price t ps e.0 e.1) 0

  abbrev at : ℕ → Point
  at i = get_or ps i origin

  -- neighbours rise and number points
  abbrev Rising : List ℕ → Type 0
  Rising list = (k : ℕ) → suc k < length list → (get_or list k 0 < get_or list (suc k) 0) × (get_or list (suc k) 0 < length ps)

  price_is : (i j : ℕ) (code : List Bool) → i < j → j < length ps → t (cols (at i) (at j)) (rows (at i) (at j)) ≡ Some code → edge_price t ps i j ≡ Some (length code)
  price_is i j code l m e = cond-true (ltb i j && ltb j (length ps)) _ None (and_from (ltb i j) (ltb j (length ps)) (lt-ltb i j l) (lt-ltb j (length ps) m)) ∙ ap price_of e

  -- prices added edge by edge are the bits of all codes
  bits_along : (c i : ℕ) (list : List ℕ) (codes : List Bool) → Rising (i ∷ list) → codes_from t (at i) (map at list) ≡ Some codes → fold adds c (edges (i ∷ list)) ≡ c + length codes
  bits_along c i [] codes rising e = let none : [] ≡ codes = cc in omega (arith, ap length none)
  bits_along c i (j ∷ list) codes rising e =
      let p = codes_parts (t (cols (at i) (at j)) (rows (at i) (at j))) (codes_from t (at j) (map at list)) codes e in
      let up = rising 0 (omega arith) in
      let here : unwrap_or (edge_price t ps i j) 0 ≡ length p.0 = ap (λ o. unwrap_or o 0) (price_is i j p.0 up.0 up.1 p.2) in
      ap (λ m. fold adds (c + m) (edges (j ∷ list))) here
      ∙ bits_along (c + length p.0) j list p.1 (λ k l. rising (suc k) (omega arith)) p.3
      ∙ omega (arith, ap length p.4, length-append p.0 p.1)

-- the bits of a polygon are the bits of its codes
pub edge_bits_are_codes : (t : Table) → EdgeBitsAreCodes t
edge_bits_are_codes t ps [] codes p e = let some = p.some in absurd (omega arith)
edge_bits_are_codes t ps (i ∷ list) codes p e =
    bits_along t ps 0 i list codes (λ k l. (p.rising k l, polygon_below (length ps) (i ∷ list) p (suc k) l)) e ∙ zero-add (length codes)
