-- What the bytes of a record say when they are taken apart again.
use Rattle.std.proofs.Common.{◌≡◌, ℕ, suc, ◌+◌, ◌*◌, ◌/◌, ◌%◌, ◌<◌, Bool, false, List, [], ◌∷◌, ◌++◌, length, get_or, take, drop, replicate, Some, None, Option, sym, refl, ap, ◌∙◌, subst, arith, length-append}
use Rattle.std.proofs.lemmas.List.{take-append-drop, take_at}
use Rattle.std.specs.Option.{option_map}
use Rattle.outline.specs.declared.point.Point.{Point}
use Rattle.outline.specs.Held.{origin}
use Rattle.coding.specs.Bits.{bits_of}
use Rattle.coding.specs.Tables.{Table}
use Rattle.records.specs.Bytes.{bytes_of, codes_from, codes_of, framed, record_of}
use Rattle.records.specs.Reading.{word_at, Whole, start_at, edges_at, code_bits}
use Rattle.records.proofs.Packing.{bytes_hold}
use Rattle.records.proofs.Parts.{same_point}

-- the parts of the record that some bytes begin with
pub record Parsed (t : Table) (bs : List ℕ) (kind : ℕ) (vs : List Point) (taken : ℕ) : Type 0 where
  pub whole : Whole bs
  pub kind_is : word_at bs 2 ≡ kind
  pub first : get_or vs 0 origin ≡ start_at bs
  pub count : length vs ≡ suc (edges_at bs)
  pub size : taken ≡ 2 + word_at bs 0
  pub codes : List Bool
  pub coded : codes_of t vs ≡ Some codes
  pub pad : ℕ
  pub few : pad < 8
  pub row : code_bits bs ≡ codes ++ replicate pad false

word_read : (n : ℕ) → n % 256 + 256 * (n / 256) ≡ n
word_read n = omega arith

-- the bytes of a record before any others
framed_parts : (t : Table) (kind : ℕ) (u : Point) (vs : List Point) (codes : List Bool) (rest : List ℕ) → codes_from t u vs ≡ Some codes
    → Parsed t (framed kind u (length vs) codes ++ rest) kind (u ∷ vs) (length (framed kind u (length vs) codes))
framed_parts t kind u vs codes rest coded =
    let body = bytes_of codes in
    let n = 7 + length body in
    let long : length (body ++ rest) ≡ length body + length rest = length-append body rest in
    let size : n % 256 + 256 * (n / 256) ≡ n = word_read n in
    let held = bytes_hold codes in
    record {
      whole = (omega arith, omega arith, omega arith);
      kind_is = word_read kind;
      first = sym (same_point _ _ _ _ (word_read u.col) (word_read u.row));
      count = refl;
      size = omega arith;
      codes = codes;
      coded = coded;
      pad = held.0;
      few = held.1;
      row = ap (λ k. bits_of (take k (body ++ rest))) (omega arith) ∙ ap bits_of (take_at body rest (length body) refl) ∙ held.2;
    }

mapped_some : {X Y : Type 0} (f : X → Y) (o : Option X) (y : Y) → option_map f o ≡ Some y → (x : X) × (o ≡ Some x) × (f x ≡ y)
mapped_some f (Some x) y e = (x, refl, (cc))
mapped_some f None y e = let z : ◌≡◌ {A = ℕ} 0 1 = cc in absurd (omega arith)

-- the record that some bytes begin with, taken apart
pub parsed : (t : Table) (kind : ℕ) (vs : List Point) (bytes bs : List ℕ) → record_of t kind vs ≡ Some bytes → take (length bytes) bs ≡ bytes → Parsed t bs kind vs (length bytes)
parsed t kind [] bytes bs e b = let z : ◌≡◌ {A = ℕ} 0 1 = cc in absurd (omega arith)
parsed t kind (u ∷ vs) bytes bs e b =
    let p = mapped_some (framed kind u (length vs)) (codes_from t u vs) bytes e in
    let whole : bytes ++ drop (length bytes) bs ≡ bs = ap (λ front. front ++ drop (length bytes) bs) (sym b) ∙ take-append-drop (length bytes) bs in
    let there : Parsed t (bytes ++ drop (length bytes) bs) kind (u ∷ vs) (length bytes) =
    subst (λ xs. Parsed t (xs ++ drop (length bytes) bs) kind (u ∷ vs) (length xs)) p.2 (framed_parts t kind u vs p.0 (drop (length bytes) bs) p.1) in
    subst (λ xs. Parsed t xs kind (u ∷ vs) (length bytes)) whole there
