-- The record of a usable polygon: there is one, and it has at most 743 bytes.
use Rattle.std.proofs.Common.{◌≡◌, ℕ, ◌+◌, ◌*◌, ◌/◌, ◌≤◌, Bool, true, false, ◌&&◌, ltb, List, [], ◌∷◌, ◌++◌, length, get_or, ℤ, is_some, Some, None, Option, sym, refl, ap, ◌∙◌, ap₂, ⊎_elim, arith, length-append}
use lib.ListN.{length-map}
use Rattle.std.proofs.lemmas.Bool.{both_ways, cases_Bool, cond-false, cond-true}
use Rattle.std.specs.Option.{option_map}
use Rattle.std.specs.List.{AllByRecursion}
use Rattle.coding.specs.Axes.{axis_is}
use Rattle.coding.specs.Chains.{chain_length}
use Rattle.coding.specs.Flats.{flat_is}
use Rattle.coding.specs.Legs.{leg_of}
use Rattle.coding.specs.Pairs.{pair_is}
use Rattle.coding.specs.Runs.{class_bounds, run_is, run_length}
use Rattle.coding.specs.Kinds.{axis_code, by_direction, chain_code, flat, kind_table, run_code}
use Rattle.coding.specs.Kinds.{side}
use Rattle.coding.specs.Tables.{Table, price_of}
use Rattle.coding.specs.declared.kind.Kind.{Kind}
use Rattle.coding.specs.declared.kind.Kind.TheVariants.{Flat, Run, Axis, Chain, RunFlat}
use Rattle.outline.specs.Held.{origin}
use Rattle.outline.specs.Polygon.{edges}
use Rattle.outline.specs.declared.point.Point.{Point}
use Rattle.records.proofs.Packing.{length_packed}
use Rattle.records.proofs.Polygons.{polygon_few}
use Rattle.records.proofs.Spelling.{codes_parts}
use Rattle.records.specs.Bytes.{cols, rows, codes_from, framed, joined_codes, record_of}
use Rattle.records.specs.Writing.{vertices}
use Rattle.weighing.specs.Edges.{edge_price}
use Rattle.weighing.specs.Weights.{Usable}

-- codes of at most 23 bits
abbrev Short : Table → Type 0
Short t = (x y : ℤ) (code : List Bool) → t x y ≡ Some code → length code ≤ 23

run_short : (x y : ℤ) (code : List Bool) → by_direction run_code x y ≡ Some code → length code ≤ 8
run_short x y code e =
    let leg = leg_of run_code x y code e in
    let is = run_is leg.0 leg.1 code leg.3 in
    omega (arith, ap length is.1, run_length leg.0 leg.1, (class_bounds leg.1 leg.2.1 is.0).0)

side_short : (m : Bool) (x y : ℤ) (bits : List Bool) → side m (by_direction run_code) flat x y ≡ Some bits → length bits ≤ 22
side_short true x y bits e = omega (arith, (flat_is x y bits e).3)
side_short false x y bits e = omega (arith, run_short x y bits e)

pub kind_short : (k : Kind) → Short (kind_table k)
kind_short Flat x y code e = omega (arith, (flat_is x y code e).3)
kind_short Run x y code e = omega (arith, run_short x y code e)
kind_short Axis x y code e = let leg = leg_of axis_code x y code e in omega (arith, (axis_is leg.0 leg.1 code leg.3).3)
kind_short Chain x y code e = let leg = leg_of chain_code x y code e in omega (arith, chain_length leg.0 leg.1 code leg.3)
kind_short RunFlat x y code e =
    let is = pair_is (by_direction run_code) flat x y code e in
    omega (arith, ap length is.2, side_short is.0 x y is.1 is.3)

codes_short : (t : Table) → Short t → (u : Point) (vs : List Point) (codes : List Bool) → codes_from t u vs ≡ Some codes → length codes ≤ 23 * length vs
codes_short t short u [] codes e = let none : [] ≡ codes = cc in omega (arith, ap length none)
codes_short t short u (v ∷ vs) codes e =
    let p = codes_parts (t (cols u v) (rows u v)) (codes_from t v vs) codes e in
    omega (arith, codes_short t short v vs p.1 p.3, short (cols u v) (rows u v) p.0 p.2, ap length p.4, length-append p.0 p.1)

-- what has a price has a code
price_code : (o : Option (List Bool)) → is_some (price_of o) ≡ true → (code : List Bool) × (o ≡ Some code)
price_code (Some code) has = (code, refl)
price_code None has = absurd (both_ways false refl has)

edge_code : (t : Table) (ps : List Point) (i j : ℕ) → is_some (edge_price t ps i j) ≡ true → (code : List Bool) × (t (cols (get_or ps i origin) (get_or ps j origin)) (rows (get_or ps i origin) (get_or ps j origin)) ≡ Some code)
edge_code t ps i j has =
    let test = ltb i j && ltb j (length ps) in
    let code = t (cols (get_or ps i origin) (get_or ps j origin)) (rows (get_or ps i origin) (get_or ps j origin)) in
    ⊎_elim
    (λ yes. price_code code (sym (ap is_some (cond-true test (price_of code) None yes)) ∙ has))
    (λ no. absurd (both_ways false refl (sym (ap is_some (cond-false test (price_of code) None no)) ∙ has)))
    (cases_Bool test)

codes_along : (t : Table) (ps : List Point) (i : ℕ) (rest : List ℕ) → AllByRecursion (λ e. is_some (edge_price t ps e.0 e.1) ≡ true) (edges (i ∷ rest))
    → (codes : List Bool) × (codes_from t (get_or ps i origin) (vertices ps rest) ≡ Some codes)
codes_along t ps i [] all = ([], refl)
codes_along t ps i (j ∷ rest) all =
    let first = edge_code t ps i j all.0 in
    let others = codes_along t ps j rest all.1 in
    (first.0 ++ others.0, ap₂ joined_codes first.1 others.1)

framed_short : (kind : ℕ) (u : Point) (n : ℕ) (codes : List Bool) → length codes ≤ 23 * 255 → length (framed kind u n codes) ≤ 743
framed_short kind u n codes few = omega (arith, length_packed ((length codes + 7) / 8) codes)

pub record_there : (t : Table) → Short t → (kind : ℕ) (ps : List Point) (list : List ℕ) → length ps ≤ 256 → Usable (edge_price t ps) (length ps) list
    → (bytes : List ℕ) × (record_of t kind (vertices ps list) ≡ Some bytes) × (length bytes ≤ 743)
record_there t short kind ps [] few u = absurd (omega (arith, u.0.some))
record_there t short kind ps (i ∷ rest) few u =
    let there = codes_along t ps i rest u.1 in
    let start = get_or ps i origin in
    let codes = there.0 in
    let edges_few = polygon_few (length ps) (i ∷ rest) u.0 in
    let bits = codes_short t short start (vertices ps rest) codes there.1 in (
      framed kind start (length (vertices ps rest)) codes,
      ap (option_map (framed kind start (length (vertices ps rest)))) there.1,
      framed_short kind start (length (vertices ps rest)) codes (omega (arith, bits, edges_few, length-map rest (λ k. get_or ps k origin))),
    )
