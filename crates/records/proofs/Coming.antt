-- The codes of some vertices, those put so far and those to come.
use Rattle.std.proofs.Common.{◌≡◌, ℕ, ◌+◌, ◌*◌, ◌/◌, ◌^◌, ◌<◌, ◌≤◌, Bool, List, [], ◌∷◌, ◌++◌, length, get_or, take, drop, Some, None, Option, sym, refl, ap, ◌∙◌, subst, ap₂, append_assoc, arith, length-append, length-take}
use Rattle.std.proofs.lemmas.List.{append-nil, drop_all}
use Rattle.std.specs.Option.{option_map}
use Rattle.outline.specs.declared.point.Point.{Point}
use Rattle.outline.specs.Held.{origin}
use Rattle.coding.specs.Bits.{low_bits, bits_of, value}
use Rattle.coding.specs.Tables.{Table, Codes, spelled}
use Rattle.coding.specs.BitLists.{length_low_bits, length_bits_of, low_bits_value, value_below}
use Rattle.records.specs.declared.tail.Tail.{Tail}
use Rattle.records.specs.Bytes.{cols, rows, codes_from, codes_of, bytes_of}
use Rattle.records.specs.Tails.{put_bits}
use Rattle.records.specs.Writing.{vertices}
use Rattle.records.proofs.Packing.{length_packed}
use Rattle.records.proofs.Polygons.{vertices_more}
use Rattle.records.proofs.Spelling.{codes_parts}

all_codes : (n : ℕ) (o : Option (List Bool)) → option_map (λ codes. length (bytes_of codes)) o ≡ Some n → (codes : List Bool) × (o ≡ Some codes)
all_codes n (Some codes) e = (codes, refl)
all_codes n None e = let z : ◌≡◌ {A = ℕ} 0 1 = cc in absurd (omega arith)

-- bits that are put and codes to come, from a vertex on, are all codes
pub record Coming (t : Table) (u : Point) (vs : List Point) (all : Option (List Bool)) (done : List Bool) : Type 0 where
  pub rest : List Bool
  pub coded : codes_from t u vs ≡ Some rest
  pub whole : all ≡ Some (done ++ rest)

pub coming_start : (t : Table) (ps : List Point) (list rest : List ℕ) (u : Point) (n : ℕ) (done : List Bool) → option_map (λ codes. length (bytes_of codes)) (codes_of t (vertices ps list)) ≡ Some n → u ≡ get_or (vertices ps list) 0 origin → rest ≡ drop 1 list → done ≡ []
    → Coming t u (vertices ps rest) (codes_of t (vertices ps list)) done
coming_start t ps [] rest u n done e first drops none = let z : ◌≡◌ {A = ℕ} 0 1 = cc in absurd (omega arith)
coming_start t ps (i ∷ list) rest u n done e first drops none =
    let all = all_codes n (codes_from t (get_or ps i origin) (vertices ps list)) e in
    record { rest = all.0; coded = ap₂ (λ v is. codes_from t v (vertices ps is)) first drops ∙ all.1; whole = all.1 ∙ ap (λ bs. Some (bs ++ all.0)) (sym none) }

-- the next code, and what comes after it
pub record Next (t : Table) (u v : Point) (vs : List Point) (all : Option (List Bool)) (done : List Bool) : Type 0 where
  pub code : List Bool
  pub coded : t (cols u v) (rows u v) ≡ Some code
  pub after : Coming t v vs all (done ++ code)

pub coming_next : (t : Table) (u : Point) (ps : List Point) (rest : List ℕ) (k : ℕ) (v : Point) (all : Option (List Bool)) (done : List Bool) → k < length rest → v ≡ get_or ps (get_or rest k 0) origin → Coming t u (vertices ps (drop k rest)) all done
    → Next t u v (vertices ps (drop (k + 1) rest)) all done
coming_next t u ps rest k v all done l next c =
    let p = codes_parts (t (cols u v) (rows u v)) (codes_from t v (vertices ps (drop (k + 1) rest))) c.rest (ap (codes_from t u) (sym (vertices_more ps rest k v l next)) ∙ c.coded) in
    record {
      code = p.0;
      coded = p.2;
      after = record {
        rest = p.1;
        coded = p.3;
        whole = c.whole ∙ ap Some (ap (λ r. done ++ r) p.4 ∙ sym (append_assoc done p.0 p.1));
      };
    }

pub coming_end : (t : Table) (u : Point) (ps : List Point) (rest : List ℕ) (k : ℕ) (all : Option (List Bool)) (done : List Bool) → length rest ≤ k → Coming t u (vertices ps (drop k rest)) all done → all ≡ Some done
coming_end t u ps rest k all done l c =
    let none : Some [] ≡ Some c.rest = ap (λ is. codes_from t u (vertices ps is)) (sym (drop_all k rest l)) ∙ c.coded in
    let nil : [] ≡ c.rest = cc in
    c.whole ∙ ap (λ r. Some (done ++ r)) (sym nil) ∙ ap Some (append-nil done)

-- the bytes that hold all codes
room_is : (all : Option (List Bool)) (codes : List Bool) (n : ℕ) → option_map (λ codes. length (bytes_of codes)) all ≡ Some n → all ≡ Some codes → (length codes + 7) / 8 ≡ n
room_is all codes n e a =
    let both : Some (length (bytes_of codes)) ≡ Some n = ap (option_map (λ codes. length (bytes_of codes))) (sym a) ∙ e in
    let same : length (bytes_of codes) ≡ n = cc in
    sym (length_packed ((length codes + 7) / 8) codes) ∙ same

length_put : (body : List ℕ) (tail : Tail) → tail.at ≤ length body → length (put_bits body tail) ≡ 8 * tail.at + tail.len
length_put body tail l =
    length-append (bits_of (take tail.at body)) (low_bits tail.len tail.bits)
    ∙ omega (arith, length_bits_of (take tail.at body), length-take tail.at body, length_low_bits tail.len tail.bits)

module _ (t : Table) (keeps : Codes t) (u v : Point) (vs : List Point) (all : Option (List Bool)) (body : List ℕ) (tail : Tail) (n : Next t u v vs all (put_bits body tail)) (r : ℕ × ℕ) (said : spelled (t (cols u v) (rows u v)) ≡ Some r) where
  -- the number and the length of the next code
  next_is : (value n.code ≡ r.0) × (length n.code ≡ r.1)
  next_is =
      let both : Some (value n.code, length n.code) ≡ Some r = ap spelled (sym n.coded) ∙ said in
      let same : (value n.code, length n.code) ≡ r = cc in
      (ap (λ (p : ℕ × ℕ). p.0) same, ap (λ (p : ℕ × ℕ). p.1) same)

  pub next_sized : r.1 ≤ 32
  next_sized = omega (arith, next_is.1, (keeps.sized _ _ n.code n.coded).1)

  pub next_below : r.0 < 2 ^ r.1
  next_below =
      let low : value n.code < 2 ^ r.1 = subst (λ w. value n.code < 2 ^ w) next_is.1 (value_below n.code) in
      omega (arith, next_is.0, low)

  pub next_room : tail.at ≤ length body → option_map (λ codes. length (bytes_of codes)) all ≡ Some (length body) → tail.at + (tail.len + r.1) / 8 ≤ length body
  next_room l room =
      let done = put_bits body tail in
      let whole = room_is all ((done ++ n.code) ++ n.after.rest) (length body) room n.after.whole in
      omega (arith, whole, next_is.1, length_put body tail l, length-append (done ++ n.code) n.after.rest, length-append done n.code)

  pub next_coming : (body' : List ℕ) (tail' : Tail) → put_bits body' tail' ≡ put_bits body tail ++ low_bits r.1 r.0 → Coming t v vs all (put_bits body' tail')
  next_coming body' tail' e =
      let code : low_bits r.1 r.0 ≡ n.code = ap₂ low_bits (sym next_is.1) (sym next_is.0) ∙ low_bits_value n.code in
      subst (Coming t v vs all) (sym (e ∙ ap (λ bs. put_bits body tail ++ bs) code)) n.after

pub end_room : (all : Option (List Bool)) (body : List ℕ) (tail : Tail) → all ≡ Some (put_bits body tail) → tail.at ≤ length body → option_map (λ codes. length (bytes_of codes)) all ≡ Some (length body) → tail.at + (tail.len + 7) / 8 ≡ length body
end_room all body tail e l room = omega (arith, room_is all (put_bits body tail) (length body) room e, length_put body tail l)
