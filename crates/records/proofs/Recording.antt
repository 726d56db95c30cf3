-- The record of a polygon in a buffer: its head, its codes, and what the call answers.
use Rattle.std.proofs.Common.{◌≡◌, ℕ, suc, ◌+◌, ◌-◌, ◌*◌, ◌/◌, ◌<◌, ◌≤◌, Bool, leb, List, [], ◌∷◌, ◌++◌, length, get_or, take, drop, Some, None, Ok, Err, Option, Result, sym, refl, ap, ◌∙◌, subst, ap₂, append_assoc, arith, length-append, length-drop, length-take}
use borrow.Rule.Slice.PartMut.{put_mid, post_of}
use Rattle.std.proofs.lemmas.List.{take_at, drop_at, drop-drop}
use Rattle.std.proofs.lemmas.Bool.{cond-true, cond-false, le-leb, lt-leb}
use Rattle.std.specs.Option.{option_map}
use Rattle.outline.specs.declared.point.Point.{Point}
use Rattle.outline.specs.declared.refusal.Refusal.{Refusal}
use Rattle.outline.specs.declared.refusal.Refusal.TheVariants.{Kind, BufferShort, EdgeNoCode}
use Rattle.outline.specs.Held.{origin}
use Rattle.outline.specs.Polygon.{Polygon}
use Rattle.coding.specs.Tables.{Table, Codes, price_of}
use Rattle.weighing.specs.Edges.{edge_price, polygon_bits}
use Rattle.records.specs.declared.written.Written.{Written}
use Rattle.records.specs.Bytes.{word, cols, rows, codes_from, codes_of, bytes_of, framed, record_of}
use Rattle.records.specs.Reading.{AllInside, Kinds, only}
use Rattle.records.specs.Writing.{vertices, stored}
use Rattle.records.specs.Numbered.{code_answer, Recorded, Records, KnownBack}
use Rattle.records.proofs.Acceptance.{only_kind}
use Rattle.records.proofs.Known.{accepted_more}
use Rattle.records.proofs.Packing.{length_packed}
use Rattle.records.proofs.Prices.{edge_bits_are_codes, some_price, none_price}
use Rattle.records.proofs.Spelling.{codes_parts}

codes_few : (t : Table) → Codes t → (u : Point) (vs : List Point) (codes : List Bool) → codes_from t u vs ≡ Some codes → length codes ≤ 32 * length vs
codes_few t keeps u [] codes e = let none : [] ≡ codes = cc in omega (arith, ap length none)
codes_few t keeps u (v ∷ vs) codes e =
    let p = codes_parts (t (cols u v) (rows u v)) (codes_from t v vs) codes e in
    omega (arith, codes_few t keeps v vs p.1 p.3, (keeps.sized (cols u v) (rows u v) p.0 p.2).1, ap length p.4, length-append p.0 p.1)

-- a polygon has at most 32 bits to an edge
pub bits_few : (t : Table) → Codes t → (vs : List Point) (b : ℕ) → Some b ≡ price_of (codes_of t vs) → b ≤ 32 * length vs
bits_few t keeps [] b e = let z : ◌≡◌ {A = ℕ} 0 1 = cc in absurd (omega arith)
bits_few t keeps (u ∷ vs) b e =
    let c = some_price (codes_from t u vs) b e in
    omega (arith, c.2, codes_few t keeps u vs c.0 c.1)

pub record_is : (t : Table) (kind : ℕ) (vs : List Point) (codes : List Bool) → codes_of t vs ≡ Some codes → record_of t kind vs ≡ Some (framed kind (get_or vs 0 origin) (length vs - 1) codes)
record_is t kind [] codes e = let z : ◌≡◌ {A = ℕ} 0 1 = cc in absurd (omega arith)
record_is t kind (u ∷ vs) codes e =
    let count : length vs ≡ suc (length vs) - 1 = omega arith in
    ap (option_map (framed kind u (length vs))) e ∙ ap (λ n. Some (framed kind u n codes)) count

pub no_record : (t : Table) (kind : ℕ) (vs : List Point) → codes_of t vs ≡ None → record_of t kind vs ≡ None
no_record t kind [] e = refl
no_record t kind (u ∷ vs) e = ap (option_map (framed kind u (length vs))) e

framed_long : (kind : ℕ) (u : Point) (n : ℕ) (codes : List Bool) → length (framed kind u n codes) ≡ 9 + (length codes + 7) / 8
framed_long kind u n codes = omega (arith, length_packed ((length codes + 7) / 8) codes)

abbrev result : ℕ → ℕ → Written
result n b = record { bytes = n; bits = b }

module _ (t : Table) (kind : ℕ) (ps : List Point) (list : List ℕ) (p : Polygon (length ps) list) (before : List ℕ) where
  pub writes_none : None ≡ price_of (codes_of t (vertices ps list)) → Recorded t kind ps list before before (Err EdgeNoCode)
  writes_none none =
      let missing = no_record t kind (vertices ps list) (none_price (codes_of t (vertices ps list)) none) in
      record {
        refused = λ not. absurd (not p);
        answered = λ q. sym (ap (λ o. code_answer o (polygon_bits (edge_price t ps) list) (length before)) missing);
        buffer = λ q. sym (ap (λ o. stored o before) missing);
      }

  module _ (b : ℕ) (codes : List Bool) (coded : codes_of t (vertices ps list) ≡ Some codes) (count : b ≡ length codes) where
    abbrev pub whole : List ℕ
    whole = framed kind (get_or (vertices ps list) 0 origin) (length (vertices ps list) - 1) codes

    written : record_of t kind (vertices ps list) ≡ Some whole
    written = record_is t kind (vertices ps list) codes coded

    bits : polygon_bits (edge_price t ps) list ≡ b
    bits = edge_bits_are_codes t ps list codes p coded ∙ sym count

    pub long : length whole ≡ 9 + (b + 7) / 8
    long = framed_long kind (get_or (vertices ps list) 0 origin) (length (vertices ps list) - 1) codes ∙ ap (λ n. 9 + (n + 7) / 8) (sym count)

    pub writes_short : length before < 9 + (b + 7) / 8 → Recorded t kind ps list before before (Err BufferShort)
    writes_short few =
        let test = lt-leb (length whole) (length before) (omega (arith, long)) in
        record {
          refused = λ not. absurd (not p);
          answered = λ q. sym (ap₂ (λ o n. code_answer o n (length before)) written bits ∙ cond-false (leb (length whole) (length before)) (Ok (result (length whole) b)) (Err BufferShort) test);
          buffer = λ q. sym (ap (λ o. stored o before) written ∙ cond-false (leb (length whole) (length before)) (whole ++ drop (length whole) before) before test);
        }

    pub writes_all : (after : List ℕ) → 9 + (b + 7) / 8 ≤ length before → after ≡ whole ++ drop (9 + (b + 7) / 8) before → Recorded t kind ps list before after (Ok (result (9 + (b + 7) / 8) b))
    writes_all after room held =
        let test = le-leb (length whole) (length before) (omega (arith, long)) in
        record {
          refused = λ not. absurd (not p);
          answered = λ q. ap (λ n. Ok (result n b)) (sym long) ∙ sym (ap₂ (λ o n. code_answer o n (length before)) written bits ∙ cond-true (leb (length whole) (length before)) (Ok (result (length whole) b)) (Err BufferShort) test);
          buffer = λ q. held ∙ ap (λ n. whole ++ drop n before) (sym long) ∙ sym (ap (λ o. stored o before) written ∙ cond-true (leb (length whole) (length before)) (whole ++ drop (length whole) before) before test);
        }

    pub reads_back : (after : List ℕ) → AllInside (vertices ps list) → after ≡ whole ++ drop (9 + (b + 7) / 8) before → KnownBack (only kind t) kind (vertices ps list) after (Ok (result (9 + (b + 7) / 8) b))
    reads_back after inside held rest =
        let front : take (9 + (b + 7) / 8) after ≡ whole = ap (take (9 + (b + 7) / 8)) held ∙ take_at whole (drop (9 + (b + 7) / 8) before) (9 + (b + 7) / 8) long in
        record {
          table = t;
          known_kind = only_kind kind kind t refl;
          bytes = whole;
          written = written;
          begins = ap (λ xs. take (length whole) (xs ++ rest)) front ∙ take_at whole rest (length whole) refl;
          takes = long;
          inside = inside;
        }

-- a number that no kind has is refused and writes nothing
pub records_none : (o : Option Table) (kind : ℕ) (ps : List Point) (list before : List ℕ) (r : Result Written Refusal) → o ≡ None → r ≡ Err Kind → Records o kind ps list before before r
records_none o kind ps list before r e said = subst (λ x. Records x kind ps list before before r) (sym e) (said, refl)

pub records_by : (o : Option Table) (t : Table) (kind : ℕ) (ps : List Point) (list before after : List ℕ) (r : Result Written Refusal) → o ≡ Some t → Recorded t kind ps list before after r → Records o kind ps list before after r
records_by o t kind ps list before after r e w = subst (λ x. Records x kind ps list before after r) (sym e) w

pub back_more : (known : Kinds) (kind : ℕ) (t : Table) → known kind ≡ Some t → (vs : List Point) (after : List ℕ) (r : Result Written Refusal) → KnownBack (only kind t) kind vs after r → KnownBack known kind vs after r
back_more known kind t e vs after (Ok w) back = λ rest. accepted_more known kind t e (take w.bytes after ++ rest) vs w.bytes (back rest)
back_more known kind t e vs after (Err f) back = tt

-- a head and the bytes of its codes
pub head_joined : (size kind : ℕ) (start u : Point) (edges n : ℕ) (codes : List Bool) (h body : List ℕ) → h ≡ word size ++ (word kind ++ (word start.col ++ (word start.row ++ (edges ∷ []))))
    → size ≡ 7 + length (bytes_of codes) → start ≡ u → edges ≡ n → bytes_of codes ≡ body → h ++ body ≡ framed kind u n codes
head_joined size kind start u edges n codes h body e s f m b =
    ap₂ (λ a c. a ++ c) e (sym b)
    ∙ ap (λ k. word k ++ (word kind ++ (word start.col ++ (word start.row ++ (edges ∷ bytes_of codes))))) s
    ∙ ap₂ (λ (v : Point) k. framed kind v k codes) f m

-- the buffer once its head and its codes are written
pub buffer_is : (h body before : List ℕ) (n : ℕ) → length h ≡ 9 → 9 ≤ n → put_mid 9 (n - 9) (h ++ post_of 0 9 before) body ≡ (h ++ body) ++ drop n before
buffer_is h body before n nine l =
    let r = drop 9 before in
    let past : 9 + (n - 9) ≡ n = omega arith in
    ap₂ (λ a b. a ++ (body ++ drop (n - 9) b)) (take_at h r 9 nine) (drop_at h r 9 nine)
    ∙ ap (λ xs. h ++ (body ++ xs)) (drop-drop (n - 9) 9 before ∙ ap (λ k. drop k before) past)
    ∙ sym (append_assoc h body (drop n before))

-- the part of the buffer behind the head
pub part_long : (h before : List ℕ) (n : ℕ) → length h ≡ 9 → n ≤ length before → length (take (n - 9) (drop 9 (h ++ post_of 0 9 before))) ≡ n - 9
part_long h before n nine l =
    ap (λ xs. length (take (n - 9) xs)) (drop_at h (drop 9 before) 9 nine)
    ∙ omega (arith, length-take (n - 9) (drop 9 before), length-drop 9 before)

pub codes_room : (t : Table) (vs : List Point) (b m : ℕ) → Some b ≡ price_of (codes_of t vs) → m ≡ (b + 7) / 8 → option_map (λ codes. length (bytes_of codes)) (codes_of t vs) ≡ Some m
codes_room t vs b m bits e =
    let c = some_price (codes_of t vs) b bits in
    let size : length (bytes_of c.0) ≡ m = omega (arith, length_packed ((length c.0 + 7) / 8) c.0, c.2) in
    ap (option_map (λ codes. length (bytes_of codes))) c.1 ∙ ap Some size

pub codes_bytes : (t : Table) (vs : List Point) (codes : List Bool) (body : List ℕ) → codes_of t vs ≡ Some codes → option_map bytes_of (codes_of t vs) ≡ Some body → bytes_of codes ≡ body
codes_bytes t vs codes body c e =
    let both : Some (bytes_of codes) ≡ Some body = ap (option_map bytes_of) (sym c) ∙ e in
    cc
