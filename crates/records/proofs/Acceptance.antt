-- From the parts of a head and its codes to the record that the bytes begin with.
use Rattle.std.proofs.Common.{◌≡◌, ℕ, suc, ◌+◌, ◌-◌, ◌*◌, ◌^◌, ◌<◌, ◌≤◌, Bool, false, eqb, List, [], ◌∷◌, ◌++◌, length, get_or, take, drop, replicate, Some, None, Ok, Err, Result, sym, ap, ◌∙◌, subst, ap₂, subst₂, ⊎_elim, arith, length-drop, length-take}
use Rattle.std.proofs.lemmas.List.{get_or-take, get_or-drop, get_or_past, take_all}
use Rattle.std.proofs.lemmas.Bool.{cases_lt, cond-true, eq-eqb}
use Rattle.std.specs.Option.{option_map}
use Rattle.outline.specs.declared.point.Point.{Point}
use Rattle.outline.specs.Held.{origin}
use Rattle.coding.specs.Bits.{bits_of, Begins}
use Rattle.coding.specs.Tables.{Table}
use Rattle.coding.specs.BitLists.{length_bits_of}
use Rattle.records.specs.declared.fault.BitFault.TheVariants.{Trailing}
use Rattle.records.specs.declared.fault.HeadFault.TheVariants.{Short, Kind, Column, Row}
use Rattle.records.specs.declared.fault.Fault.{Fault}
use Rattle.records.specs.declared.fault.Fault.TheVariants.{Head, Code, End, List as Full}
use Rattle.records.specs.declared.reading.Reading.{Reading}
use Rattle.records.specs.Bytes.{word, bytes_of, framed, record_of}
use Rattle.records.specs.Reading.{word_at, Whole, start_at, edges_at, code_bits, Inside, Padding, Kinds, only, Spelled, ReadTo, Accepted, ReadRight}
use Rattle.records.specs.Steps.{AllSpelled, RecordRead}
use Rattle.records.proofs.Packing.{bytes_back}
use Rattle.records.proofs.Spelling.{begins_rest}

abbrev Small : List ℕ → Type 0
Small bs = (k : ℕ) → get_or bs k 0 < 256

word_back : (a b : ℕ) → a < 256 → word (a + 256 * b) ≡ a ∷ b ∷ []
word_back a b small = ap₂ (λ x y. x ∷ y ∷ []) (omega arith) (omega arith)

abbrev body : List ℕ → List ℕ
body bs = take (word_at bs 0 - 7) (drop 9 bs)

-- the head's own bytes before the bytes of its codes
framed_front : (bs : List ℕ) → Whole bs → Small bs → word (7 + length (body bs)) ++ (word (word_at bs 2) ++ (word (word_at bs 4) ++ (word (word_at bs 6) ++ (edges_at bs ∷ body bs)))) ≡ take (2 + word_at bs 0) bs
framed_front [] w small = absurd (omega arith)
framed_front (b0 ∷ []) w small = absurd (omega arith)
framed_front (b0 ∷ b1 ∷ []) w small = absurd (omega arith)
framed_front (b0 ∷ b1 ∷ b2 ∷ []) w small = absurd (omega arith)
framed_front (b0 ∷ b1 ∷ b2 ∷ b3 ∷ []) w small = absurd (omega arith)
framed_front (b0 ∷ b1 ∷ b2 ∷ b3 ∷ b4 ∷ []) w small = absurd (omega arith)
framed_front (b0 ∷ b1 ∷ b2 ∷ b3 ∷ b4 ∷ b5 ∷ []) w small = absurd (omega arith)
framed_front (b0 ∷ b1 ∷ b2 ∷ b3 ∷ b4 ∷ b5 ∷ b6 ∷ []) w small = absurd (omega arith)
framed_front (b0 ∷ b1 ∷ b2 ∷ b3 ∷ b4 ∷ b5 ∷ b6 ∷ b7 ∷ []) w small = absurd (omega arith)
framed_front (b0 ∷ b1 ∷ b2 ∷ b3 ∷ b4 ∷ b5 ∷ b6 ∷ b7 ∷ b8 ∷ rest) w small =
    let n = b0 + 256 * b1 in
    let xs = take (n - 7) rest in
    let long : 7 + length xs ≡ n = omega (arith, length-take (n - 7) rest) in
    let l : word (7 + length xs) ≡ b0 ∷ b1 ∷ [] = ap word long ∙ word_back b0 b1 (small 0) in
    let k = word_back b2 b3 (small 2) in
    let c = word_back b4 b5 (small 4) in
    let r = word_back b6 b7 (small 6) in
    let size : suc (suc (suc (suc (suc (suc (suc (suc (suc (n - 7))))))))) ≡ 2 + n = omega arith in
    ap₂ (λ a b. a ++ b) l (ap₂ (λ a b. a ++ b) k (ap₂ (λ a b. a ++ b) c (ap (λ a. a ++ (b8 ∷ xs)) r)))
    ∙ ap (λ m. take m (b0 ∷ b1 ∷ b2 ∷ b3 ∷ b4 ∷ b5 ∷ b6 ∷ b7 ∷ b8 ∷ rest)) size

-- bytes of a part are bytes
small_part : (bs : List ℕ) (n m : ℕ) → Small bs → Small (take n (drop m bs))
small_part bs n m small k =
    ⊎_elim
    (λ l. subst (λ x. x < 256) (sym (get_or-take n (drop m bs) k 0 l ∙ get_or-drop m bs k 0)) (small (m + k)))
    (λ (l : n ≤ k). subst (λ x. x < 256) (sym (get_or_past (take n (drop m bs)) k 0 (simp length-take (omega arith)))) (omega arith))
    (cases_lt k n)

-- a row of bits that begins with codes, and only padding after them
padded_row : (codes row : List Bool) (bit : ℕ) → Begins codes row → length codes ≡ bit → Padding (drop bit row) → row ≡ codes ++ replicate (length (drop bit row)) false
padded_row codes row bit b e p = begins_rest codes row b ∙ ap (λ n. codes ++ drop n row) e ∙ ap (λ r. codes ++ r) p.1

module _ (known : Kinds) (bs : List ℕ) (t : Table) (w : Whole bs) (small : Small bs) (kind : known (word_at bs 2) ≡ Some t) where
  spelled_bytes : (vs : List Point) (bit : ℕ) (s : Spelled t (code_bits bs) vs bit) → Padding (drop bit (code_bits bs)) → framed (word_at bs 2) (start_at bs) (edges_at bs) s.codes ≡ take (2 + word_at bs 0) bs
  spelled_bytes vs bit s p =
      let back : bytes_of s.codes ≡ body bs = bytes_back (body bs) s.codes (length (drop bit (code_bits bs))) (small_part bs (word_at bs 0 - 7) 9 small) (padded_row s.codes (code_bits bs) bit s.begins s.ends p) p.0 in
      ap (λ xs. word (7 + length xs) ++ (word (word_at bs 2) ++ (word (word_at bs 4) ++ (word (word_at bs 6) ++ (edges_at bs ∷ xs))))) back ∙ framed_front bs w small

  record_written : (vs : List Point) (bit : ℕ) → (s : AllSpelled t (code_bits bs) (start_at bs) (edges_at bs) vs bit) → record_of t (word_at bs 2) vs ≡ Some (framed (word_at bs 2) (start_at bs) (edges_at bs) s.spelled.codes)
  record_written [] bit s = let h = s.count in absurd (omega arith)
  record_written (u ∷ vs) bit s =
      let k = word_at bs 2 in
      let count : length vs ≡ edges_at bs = omega (arith, s.count) in
      ap (option_map (framed k u (length vs))) s.spelled.coded
      ∙ ap Some (ap₂ (λ p n. framed k p n s.spelled.codes) s.first count)

  pub accepted_from : (vs : List Point) (bit : ℕ) → AllSpelled t (code_bits bs) (start_at bs) (edges_at bs) vs bit → Padding (drop bit (code_bits bs)) → Accepted known bs (word_at bs 2) vs (2 + word_at bs 0)
  accepted_from vs bit s p =
      let bytes = spelled_bytes vs bit s.spelled p in
      let long : length (framed (word_at bs 2) (start_at bs) (edges_at bs) s.spelled.codes) ≡ 2 + word_at bs 0 = ap length bytes ∙ omega (arith, length-take (2 + word_at bs 0) bs) in
      record {
        table = t;
        known_kind = kind;
        bytes = framed (word_at bs 2) (start_at bs) (edges_at bs) s.spelled.codes;
        written = record_written vs bit s;
        begins = ap (λ n. take n bs) long ∙ sym bytes;
        takes = long;
        inside = s.spelled.inside;
      }

  read_to : (edge : ℕ) (vs : List Point) (bit : ℕ) → Inside (start_at bs) → get_or vs 0 origin ≡ start_at bs → length vs ≡ edge → Spelled t (code_bits bs) vs bit → ReadTo known bs edge bit
  read_to edge vs bit inside first count s =
      record { table = t; head = record { whole = w; kind = kind; start = inside }; vertices = vs; start = first; count = count; spelled = s }

  known_some : known (word_at bs 2) ≡ None → ⊥
  known_some e = let z : ◌≡◌ {A = ℕ} 0 1 = cc in omega arith

  -- the row of codes is short enough to count
  row_whole : take (2 ^ 64 - 1) (code_bits bs) ≡ code_bits bs
  row_whole =
      let few : get_or bs 0 0 + 256 * get_or bs 1 0 < 65536 = omega (arith, small 0, small 1) in
      take_all (2 ^ 64 - 1) (code_bits bs) (omega (arith, length_bits_of (body bs), length-take (word_at bs 0 - 7) (drop 9 bs)))

  right : (before after : List Point) (r : Result Reading Fault) → RecordRead t (code_bits bs) (word_at bs 2) (2 + word_at bs 0) (start_at bs) (edges_at bs) before after r → ReadRight known bs before after r
  unfolding read_to
  right before after (Ok a) (vs, bit, s, pad, inside, is, filled) =
      subst (λ x. ReadRight known bs before after (Ok x)) (sym is)
      (vs, accepted_from vs bit s pad, s.count, filled ∙ ap (λ k. vs ++ drop k before) (sym s.count))
  right before after (Err (Head Short)) b = absurd b
  right before after (Err (Head Kind)) b = absurd b
  right before after (Err (Head Column)) b = ((w, known_some, b.0), b.1)
  right before after (Err (Head Row)) b = ((w, known_some, b.0, b.1), b.2)
  right before after (Err (Code fault edge bit)) b = ((b.0.within, (read_to edge b.0.vertices bit b.1 b.0.first b.0.count b.0.spelled, b.0.wrong)), b.2)
  right before after (Err (End Trailing edge bit)) b =
      let s = b.1.1 in
      ((b.0, (read_to (suc edge) b.1.0 bit b.1.3 s.first (s.count ∙ ap suc (sym b.0)) s.spelled, b.1.2)), b.1.4)
  right before after (Err Full) (vs, bit, s, pad, inside, few, same) =
      ((word_at bs 2, vs, 2 + word_at bs 0, accepted_from vs bit s pad, omega (arith, s.count)), same)

  pub read_right : (kind' : ℕ) (start : Point) (edges : ℕ) (codes : List ℕ) (before after : List Point) (r : Result Reading Fault) → kind' ≡ word_at bs 2 → start ≡ start_at bs → edges ≡ edges_at bs → codes ≡ body bs
      → RecordRead t (take (2 ^ 64 - 1) (bits_of codes)) kind' (length codes + 9) start edges before after r → ReadRight known bs before after r
  read_right kind' start edges codes before after r k p e c b =
      let row : take (2 ^ 64 - 1) (bits_of codes) ≡ code_bits bs = ap (λ xs. take (2 ^ 64 - 1) (bits_of xs)) c ∙ row_whole in
      let long : length codes + 9 ≡ 2 + word_at bs 0 = omega (arith, ap length c, length-take (word_at bs 0 - 7) (drop 9 bs), length-drop 9 bs) in
      let by_row : RecordRead t (code_bits bs) kind' (length codes + 9) start edges before after r = subst (λ x. RecordRead t x kind' (length codes + 9) start edges before after r) row b in
      let by_size = subst₂ (λ x y. RecordRead t (code_bits bs) x y start edges before after r) k long by_row in
      right before after r (subst₂ (λ x y. RecordRead t (code_bits bs) (word_at bs 2) (2 + word_at bs 0) x y before after r) p e by_size)

pub only_kind : (kind k : ℕ) (t : Table) → k ≡ kind → only kind t k ≡ Some t
only_kind kind k t e = cond-true (eqb k kind) (Some t) None (eq-eqb k kind e)
