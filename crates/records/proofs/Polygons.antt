-- The point numbers of a polygon and the vertices that they name.
use Rattle.std.proofs.Common.{◌≡◌, ℕ, zero, suc, ◌+◌, ◌-◌, ◌<◌, ◌≤◌, List, [], ◌∷◌, length, get_or, drop, sym, ap, ◌∙◌, subst, add-zero, arith, length-drop}
use lib.ListN.{length-map}
use Rattle.std.proofs.lemmas.List.{drop_more, get_or-drop, get_or-map}
use Rattle.outline.specs.declared.point.Point.{Point}
use Rattle.outline.specs.declared.outline.Outline.{Outline}
use Rattle.outline.specs.Held.{origin}
use Rattle.outline.specs.Plain.{plain}
use Rattle.outline.specs.Polygon.{Polygon}
use Rattle.outline.proofs.Kept.{rules_of}
use Rattle.records.specs.Reading.{AllInside, Inside}
use Rattle.records.specs.Writing.{vertices}

rises_by : (n : ℕ) (vs : List ℕ) → Polygon n vs → (k d : ℕ) → k + d < length vs → get_or vs k 0 + d ≤ get_or vs (k + d) 0
rises_by n vs p k zero l = simp add-zero (omega arith)
rises_by n vs p k (suc d) l =
    let before = rises_by n vs p k d (omega arith) in
    let step = p.rising (k + d) (omega arith) in
    let next : get_or vs (k + suc d) 0 ≡ get_or vs (suc (k + d)) 0 = ap (λ i. get_or vs i 0) (omega arith) in
    omega arith

-- each number of a polygon is that of a point
pub polygon_below : (n : ℕ) (vs : List ℕ) → Polygon n vs → (k : ℕ) → k < length vs → get_or vs k 0 < n
polygon_below n vs p k l =
    let d = length vs - 1 - k in
    let end : get_or vs (k + d) 0 ≡ get_or vs (length vs - 1) 0 = ap (λ i. get_or vs i 0) (omega arith) in
    omega (arith, rises_by n vs p k d (omega arith), p.last)

-- a polygon has no more vertices than there are points
pub polygon_few : (n : ℕ) (vs : List ℕ) → Polygon n vs → length vs ≤ n
polygon_few n vs p =
    let d = length vs - 1 in
    let some = p.some in
    let end : get_or vs (0 + d) 0 ≡ get_or vs (length vs - 1) 0 = ap (λ i. get_or vs i 0) (omega arith) in
    omega (arith, rises_by n vs p 0 d (omega arith), p.last)

-- the numbers after the first are numbers of points too
pub rest_named : (n : ℕ) (list rest : List ℕ) → ((k : ℕ) → k < length list → get_or list k 0 < n) → rest ≡ drop 1 list → (k : ℕ) → k < length rest → get_or rest k 0 < n
rest_named n list rest named e k l =
    let there : get_or rest k 0 ≡ get_or list (1 + k) 0 = ap (λ xs. get_or xs k 0) e ∙ get_or-drop 1 list k 0 in
    omega (arith, named (1 + k) (omega (arith, ap length e, length-drop 1 list)))

-- the first vertex lies inside
pub first_inside : (ps : List Point) (list : List ℕ) (u : Point) → 0 < length list → AllInside ps → ((k : ℕ) → k < length list → get_or list k 0 < length ps) → u ≡ get_or (vertices ps list) 0 origin → Inside u
first_inside ps [] u some inside named e = absurd (omega arith)
first_inside ps (i ∷ list) u some inside named e = subst Inside (sym e) (inside i (named 0 some))

-- the next vertex of those to come
pub vertices_more : (ps : List Point) (rest : List ℕ) (k : ℕ) (v : Point) → k < length rest → v ≡ get_or ps (get_or rest k 0) origin → vertices ps (drop k rest) ≡ v ∷ vertices ps (drop (k + 1) rest)
vertices_more ps rest k v l e = ap (vertices ps) (drop_more rest k 0 l) ∙ ap (λ u. u ∷ vertices ps (drop (k + 1) rest)) (sym e)

pub list_few : (o : Outline) (list : List ℕ) → Polygon (length (plain o).points) list → (1 ≤ length list) × (length list ≤ 256)
list_few o list p = (p.some, omega (arith, polygon_few (length (plain o).points) list p, (rules_of o).count.1))

pub count_few : (o : Outline) (list : List ℕ) → Polygon (length (plain o).points) list → length (vertices (plain o).points list) ≤ 256
count_few o list p = omega (arith, (list_few o list p).1, length-map list (λ i. get_or (plain o).points i origin))

-- the points of an outline lie inside
pub points_inside : (o : Outline) → AllInside (plain o).points
points_inside o k l =
    let rules = rules_of o in
    let framed = rules.framed k l in
    (omega (arith, framed.0, rules.wide.1), omega (arith, framed.1, rules.tall.1))

-- the vertices of a polygon of an outline lie inside
pub vertices_inside : (o : Outline) (list : List ℕ) → Polygon (length (plain o).points) list → AllInside (vertices (plain o).points list)
vertices_inside o list p k l =
    let ps = (plain o).points in
    let short : k < length list = omega (arith, length-map list (λ i. get_or ps i origin)) in
    subst Inside (sym (get_or-map (λ i. get_or ps i origin) list k 0 origin short)) (points_inside o (get_or list k 0) (polygon_below (length ps) list p k short))
