-- The vertices of a chain record are the points of an outline.
use Rattle.std.proofs.Common.{◌≡◌, ℕ, zero, suc, ◌<◌, ◌≤◌, Bool, eqb, ltb, List, [], ◌∷◌, ◌++◌, length, get_or, take, ℤ, pos, ◌+ℤ◌, ◌*ℤ◌, Some, None, Option, sym, refl, ap, ◌∙◌, subst, ap₂, arith, length-append}
use Rattle.std.proofs.lemmas.List.{take_at}
use Rattle.std.proofs.lemmas.Int.{ints}
use Rattle.std.proofs.lemmas.Bool.{cond-true, lt-ltb, eqb-true}
use Rattle.std.specs.Option.{option_map, option_flatten}
use Rattle.outline.specs.declared.point.Point.{Point}
use Rattle.outline.specs.Held.{origin, Follows}
use Rattle.outline.specs.Moves.{within, both, displaced, moved, move}
use Rattle.outline.specs.Rules.{Rules}
use Rattle.coding.specs.Directions.{along, Along}
use Rattle.coding.specs.Kinds.{by_direction, chain_code}
use Rattle.coding.specs.Fields.{cond_some, none-some}
use Rattle.coding.specs.Straight.{along_is}
use Rattle.records.specs.Bytes.{cols, rows, codes_from, record_of, framed}
use Rattle.records.specs.Reading.{Inside, Accepted, only}
use Rattle.records.proofs.Spelling.{codes_parts}
use Rattle.tracing.specs.Tracing.{in_largest, chain_only}

-- a point displaced by what lies between is the other point
displaced_to : (u v : Point) → Inside v → displaced 1024 1024 u (cols u v) (rows u v) ≡ Some v
displaced_to u v inside =
    let c : pos u.col +ℤ cols u v ≡ pos v.col = omega (arith, ints) in
    let r : pos u.row +ℤ rows u v ≡ pos v.row = omega (arith, ints) in
    ap₂ (λ x y. both (within 1024 x) (within 1024 y)) c r
    ∙ ap₂ both (cond-true (ltb v.col 1024) (Some v.col) None (lt-ltb v.col 1024 inside.0)) (cond-true (ltb v.row 1024) (Some v.row) None (lt-ltb v.row 1024 inside.1))

once : (z : ℤ) → pos 1 *ℤ z ≡ z
once z = omega (arith, ints)

from_along : (x y : ℤ) (o : Option (ℕ × ℕ)) (code : List Bool) → along x y ≡ o → option_flatten (option_map (λ p. chain_code p.0 p.1) o) ≡ Some code → (d : ℕ) × (d < 8) × (x ≡ (move d).0) × (y ≡ (move d).1)
from_along x y (Some p) code is e =
    let one = cond_some (eqb p.1 1) _ code e in
    let l : p.1 ≡ 1 = eqb-true p.1 1 one.0 in
    let a : Along x y p.0 p.1 = along_is x y p.0 p.1 is in
    (p.0, a.0, a.2 ∙ ap (λ n. pos n *ℤ (move p.0).0) l ∙ once (move p.0).0, a.3 ∙ ap (λ n. pos n *ℤ (move p.0).1) l ∙ once (move p.0).1)
from_along x y None code is e = none-some code e

chain_follows : (u v : Point) (code : List Bool) → Inside v → by_direction chain_code (cols u v) (rows u v) ≡ Some code → Follows 1024 1024 u v
chain_follows u v code inside e =
    let s = from_along (cols u v) (rows u v) (along (cols u v) (rows u v)) code refl e in
    let to : moved 1024 1024 u s.0 ≡ Some v = ap₂ (displaced 1024 1024 u) (sym s.2) (sym s.3) ∙ displaced_to u v inside in
    (∣ (s.0, s.1, to) ∣₁)

traced_from : (u : Point) (vs : List Point) (codes : List Bool) → codes_from (by_direction chain_code) u vs ≡ Some codes → ((k : ℕ) → k < length (u ∷ vs) → Inside (get_or (u ∷ vs) k origin)) → (k : ℕ) → suc k < length (u ∷ vs) → Follows 1024 1024 (get_or (u ∷ vs) k origin) (get_or (u ∷ vs) (suc k) origin)
traced_from u [] codes e inside k l = absurd (omega arith)
traced_from u (v ∷ vs) codes e inside zero l =
    let parts = codes_parts (by_direction chain_code (cols u v) (rows u v)) (codes_from (by_direction chain_code) v vs) codes e in
    chain_follows u v parts.0 (inside 1 l) parts.2
traced_from u (v ∷ vs) codes e inside (suc k) l =
    let parts = codes_parts (by_direction chain_code (cols u v) (rows u v)) (codes_from (by_direction chain_code) v vs) codes e in
    traced_from v vs parts.1 parts.3 (λ j h. inside (suc j) (omega arith)) k (omega arith)

mapped_some : {X Y : Type 0} (f : X → Y) (o : Option X) (y : Y) → option_map f o ≡ Some y → (x : X) × (o ≡ Some x)
mapped_some f (Some x) y e = (x, refl)
mapped_some f None y e = none-some y e

only_is : (kind k : ℕ) (t s : Rattle.coding.specs.Tables.Table) → only kind t k ≡ Some s → s ≡ t
only_is kind k t s e = sym (cond_some (eqb k kind) t s e).1

pub rules_from : (vs : List Point) (t : Rattle.coding.specs.Tables.Table) (bytes : List ℕ) → t ≡ by_direction chain_code → record_of t 4 vs ≡ Some bytes → length vs ≤ 256 → ((k : ℕ) → k < length vs → Inside (get_or vs k origin)) → Rules (in_largest vs)
rules_from [] t bytes same e few inside = none-some bytes e
rules_from (u ∷ vs) t bytes same e few inside =
    let codes = mapped_some (framed 4 u (length vs)) (codes_from t u vs) bytes e in
    let coded = subst (λ s. codes_from s u vs ≡ Some codes.0) same codes.1 in
    record {
      wide = (omega arith, omega arith);
      tall = (omega arith, omega arith);
      count = (omega arith, few);
      framed = inside;
      traced = traced_from u vs codes.0 coded inside;
    }

-- only kind 4 is known
pub kind_four : (bs : List ℕ) (vs : List Point) (kind taken : ℕ) → Accepted chain_only bs kind vs taken → kind ≡ 4
kind_four bs vs kind taken a = eqb-true kind 4 (cond_some (eqb kind 4) (by_direction chain_code) a.table a.known_kind).0

pub accepted_rules : (bs : List ℕ) (vs : List Point) (kind taken : ℕ) → Accepted chain_only bs kind vs taken → length vs ≤ 256 → Rules (in_largest vs)
accepted_rules bs vs kind taken a few =
    rules_from vs a.table a.bytes (only_is 4 kind (by_direction chain_code) a.table a.known_kind) (subst (λ n. record_of a.table n vs ≡ Some a.bytes) (kind_four bs vs kind taken a) a.written) few a.inside

-- the list's front is what was read
pub front_read : {X : Type 0} (xs vs rest : List X) (n : ℕ) → xs ≡ vs ++ rest → length vs ≡ n → take n xs ≡ vs
front_read xs vs rest n e l = ap (take n) e ∙ take_at vs rest n l

pub front_fits : {X : Type 0} (xs vs rest : List X) (n : ℕ) → xs ≡ vs ++ rest → length vs ≡ n → n ≤ length xs
front_fits xs vs rest n e l = omega (arith, ap length e, length-append vs rest)
