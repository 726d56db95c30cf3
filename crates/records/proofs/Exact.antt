-- Reading is exact: what is accepted is never refused, and accepted in one way only.
use Rattle.std.proofs.Common.{◌≡◌, ℕ, suc, ◌-◌, ◌<◌, ◌≤◌, Bool, true, false, cond, eqb, ltb, List, [], ◌∷◌, ◌++◌, length, get_or, take, drop, replicate, pos, ◌+ℤ◌, ◌-ℤ◌, Some, None, Ok, Err, Result, sym, refl, ap, ◌∙◌, subst, ap₂, append_assoc, arith, length-append, length-drop}
use lib.ListN.{length-replicate}
use Rattle.std.proofs.lemmas.List.{append-nil, drop_at, get_or_at, take_all}
use Rattle.std.proofs.lemmas.Int.{ints}
use Rattle.std.proofs.lemmas.Bool.{cond-true, lt-ltb}
use Rattle.outline.specs.declared.point.Point.{Point}
use Rattle.outline.specs.Held.{origin}
use Rattle.outline.specs.Moves.{within, both, displaced}
use Rattle.coding.specs.Tables.{Table, Codes}
use Rattle.records.specs.declared.fault.BitFault.TheVariants.{Trailing}
use Rattle.records.specs.declared.fault.CoderFault.{CoderFault}
use Rattle.records.specs.declared.fault.CoderFault.TheVariants.{NoCode, Outside}
use Rattle.records.specs.declared.fault.HeadFault.TheVariants.{Short, Kind, Column, Row}
use Rattle.records.specs.declared.fault.Fault.{Fault}
use Rattle.records.specs.declared.fault.Fault.TheVariants.{Head, Code, End, List as Full}
use Rattle.records.specs.declared.reading.Reading.{Reading}
use Rattle.records.specs.Bytes.{cols, rows, codes_from, codes_of, record_of}
use Rattle.records.specs.Reading.{word_at, start_at, edges_at, code_bits, Inside, Padding, Kinds, only, Spelled, WrongCode, Accepted, Refused, ReadRight, ReadExact}
use Rattle.records.specs.Laws.{OneRecord, RecordsApart, KindsApart}
use Rattle.records.proofs.Bodies.{reading}
use Rattle.records.proofs.Parsing.{Parsed, parsed}
use Rattle.records.proofs.Spelling.{begins_rest, begins_from, codes_parts, last_of, last_is}
use Rattle.records.proofs.Unique.{Goes_on, one_displacement, one_spelling}

none-some : {X : Type 0} {P : Type 0} (x : X) → None ≡ Some x → P
none-some x e = let z : ◌≡◌ {A = ℕ} 0 1 = cc in absurd (omega arith)

-- vertices in a row of bits, and those that lie ahead of them
record Ahead (t : Table) (ws vs : List Point) (codes codes' : List Bool) : Type 0 where
  rest : List Point
  same : vs ≡ ws ++ rest
  more : List Bool
  coded : codes_from t (get_or ws (length ws - 1) origin) rest ≡ Some more
  after : codes' ≡ codes ++ more

ahead_from : (t : Table) (u : Point) (ws vs : List Point) (codes codes' : List Bool) → Goes_on t u ws vs codes codes' → Ahead t (u ∷ ws) (u ∷ vs) codes codes'
ahead_from t u ws vs codes codes' g =
    let end : get_or (u ∷ ws) (length (u ∷ ws) - 1) origin ≡ last_of u ws = ap (λ k. get_or (u ∷ ws) k origin) (omega arith) ∙ last_is u ws origin in
    record {
      rest = g.rest;
      same = ap (λ xs. u ∷ xs) g.same;
      more = g.more;
      coded = ap (λ p. codes_from t p g.rest) end ∙ g.coded;
      after = g.after;
    }

ahead : (t : Table) → Codes t → (ws vs : List Point) (codes codes' r r' : List Bool) → codes_of t ws ≡ Some codes → codes_of t vs ≡ Some codes' → get_or ws 0 origin ≡ get_or vs 0 origin
    → codes ++ r ≡ codes' ++ r' → length ws ≤ length vs → Ahead t ws vs codes codes'
ahead t keeps [] vs codes codes' r r' p q s e l = none-some codes p
ahead t keeps (u ∷ ws) [] codes codes' r r' p q s e l = none-some codes' q
ahead t keeps (u ∷ ws) (v ∷ vs) codes codes' r r' p q s e l =
    let here : codes_from t u vs ≡ Some codes' = ap (λ x. codes_from t x vs) s ∙ q in
    subst (λ x. Ahead t (u ∷ ws) (x ∷ vs) codes codes') s
    (ahead_from t u ws vs codes codes' (one_spelling t keeps u ws vs codes codes' r r' p here e (omega arith)))

no_more : (vs ws rest : List Point) → vs ≡ ws ++ rest → length ws ≡ length vs → rest ≡ []
no_more vs ws [] e l = refl
no_more vs ws (x ∷ rest) e l = absurd (omega (arith, ap length e, length-append ws (x ∷ rest)))

-- two records at the front of the same bytes have the same vertices
pub one_record : (t : Table) → Codes t → (bs : List ℕ) (kind kind' : ℕ) (vs ws : List Point) (n m : ℕ) → Parsed t bs kind vs n → Parsed t bs kind' ws m → vs ≡ ws
one_record t keeps bs kind kind' vs ws n m p q =
    let row : p.codes ++ replicate p.pad false ≡ q.codes ++ replicate q.pad false = sym p.row ∙ q.row in
    let a = ahead t keeps vs ws p.codes q.codes _ _ p.coded q.coded (p.first ∙ sym q.first) row (omega (arith, p.count, q.count)) in
    let none = no_more ws vs a.rest a.same (p.count ∙ sym q.count) in
    sym (a.same ∙ ap (λ xs. vs ++ xs) none ∙ append-nil vs)

displaced_to : (u v : Point) → Inside v → displaced 1024 1024 u (cols u v) (rows u v) ≡ Some v
displaced_to u v inside = ap₂ both (part u.col v.col inside.0) (part u.row v.row inside.1)
  where
    part : (a b : ℕ) → b < 1024 → within 1024 (pos a +ℤ (pos b -ℤ pos a)) ≡ Some b
    part a b l =
        let back : pos a +ℤ (pos b -ℤ pos a) ≡ pos b = omega (arith, ints) in
        ap (within 1024) back ∙ cond-true (ltb b 1024) (Some b) None (lt-ltb b 1024 l)

-- a code that begins what is left of the row, and leads to a vertex inside, is not wrong
not_wrong : (t : Table) → Codes t → (row : List Bool) (u v : Point) (code rest : List Bool) (f : CoderFault) → t (cols u v) (rows u v) ≡ Some code → row ≡ code ++ rest → Inside v → WrongCode t row u f → ⊥
not_wrong t keeps row u v code rest NoCode coded e inside wrong = wrong (cols u v) (rows u v) code coded (begins_from code rest row e)
not_wrong t keeps row u v code rest Outside coded e inside wrong =
    let by = one_displacement t keeps wrong.x wrong.y (cols u v) (rows u v) wrong.code code _ rest wrong.coded coded (sym (begins_rest wrong.code row wrong.begins) ∙ e) in
    none-some v (sym wrong.none ∙ ap₂ (displaced 1024 1024 u) by.0 by.1 ∙ displaced_to u v inside)

module _ (t : Table) (keeps : Codes t) (bs : List ℕ) (kind : ℕ) (vs : List Point) (taken : ℕ) (p : Parsed t bs kind vs taken) where
  abbrev zeros : List Bool
  zeros = replicate p.pad false

  reached : (ws : List Point) (bit : ℕ) → get_or ws 0 origin ≡ start_at bs → length ws ≤ length vs → (s : Spelled t (code_bits bs) ws bit) → Ahead t ws vs s.codes p.codes
  reached ws bit first l s =
      ahead t keeps ws vs s.codes p.codes (drop (length s.codes) (code_bits bs)) zeros s.coded p.coded (first ∙ sym p.first)
      (sym (begins_rest s.codes (code_bits bs) s.begins) ∙ p.row) l

  left_over : (ws : List Point) (bit : ℕ) (s : Spelled t (code_bits bs) ws bit) (a : Ahead t ws vs s.codes p.codes) → drop bit (code_bits bs) ≡ a.more ++ zeros
  left_over ws bit s a =
      ap (drop bit) (p.row ∙ ap (λ c. c ++ zeros) a.after ∙ append_assoc s.codes a.more zeros) ∙ drop_at s.codes (a.more ++ zeros) bit s.ends

  -- the edge at which reading would stop has its code
  pub never_stops : ((k : ℕ) → k < length vs → Inside (get_or vs k origin)) → (ws : List Point) (edge bit : ℕ) (f : CoderFault) → get_or ws 0 origin ≡ start_at bs → length ws ≡ edge → edge ≤ edges_at bs
      → Spelled t (code_bits bs) ws bit → WrongCode t (drop bit (code_bits bs)) (get_or ws (edge - 1) origin) f → ⊥
  never_stops inside ws edge bit f first count l s wrong =
      let a = reached ws bit first (omega (arith, p.count)) s in
      next a.rest a.more a.same a.coded (left_over ws bit s a)
    where
      next : (rest : List Point) (more : List Bool) → vs ≡ ws ++ rest → codes_from t (get_or ws (length ws - 1) origin) rest ≡ Some more → drop bit (code_bits bs) ≡ more ++ zeros → ⊥
      next [] more same coded row = let e = p.count in omega (arith, ap length same, length-append ws [])
      next (v ∷ rest) more same coded row =
          let c = codes_parts (t (cols (get_or ws (length ws - 1) origin) v) (rows (get_or ws (length ws - 1) origin) v)) (codes_from t v rest) more coded in
          let at_v : get_or vs edge origin ≡ v = ap (λ xs. get_or xs edge origin) same ∙ get_or_at ws v rest origin edge count in
          let in_v : Inside v = subst Inside at_v (inside edge (omega (arith, p.count))) in
          not_wrong t keeps (drop bit (code_bits bs)) (get_or ws (length ws - 1) origin) v c.0 (c.1 ++ zeros) f c.2 (row ∙ ap (λ x. x ++ zeros) c.4 ∙ append_assoc c.0 c.1 zeros) in_v
          (subst (λ k. WrongCode t (drop bit (code_bits bs)) (get_or ws (k - 1) origin) f) (sym count) wrong)

  -- after the last code there is padding
  pub never_trails : (ws : List Point) (edge bit : ℕ) → get_or ws 0 origin ≡ start_at bs → length ws ≡ suc edge → edge ≡ edges_at bs → Spelled t (code_bits bs) ws bit → Padding (drop bit (code_bits bs))
  never_trails ws edge bit first count e s =
      let a = reached ws bit first (omega (arith, p.count)) s in
      let none : a.rest ≡ [] = no_more vs ws a.rest a.same (omega (arith, p.count)) in
      let nil : Some [] ≡ Some a.more = ap (codes_from t (get_or ws (length ws - 1) origin)) (sym none) ∙ a.coded in
      let empty : [] ≡ a.more = cc in
      let row : drop bit (code_bits bs) ≡ zeros = left_over ws bit s a ∙ ap (λ m. m ++ zeros) (sym empty) in
      subst Padding (sym row) (omega (arith, length-replicate p.pad false, p.few), ap (λ n. replicate n false) (sym (length-replicate p.pad false)))

module _ (known : Kinds) (keeps : (k : ℕ) (t : Table) → known k ≡ Some t → Codes t) (bs : List ℕ) where
  -- what is accepted, taken apart, by the table that a reader has for it
  accepted_parts : (kind : ℕ) (vs : List Point) (taken : ℕ) → Accepted known bs kind vs taken → (t : Table) → known (word_at bs 2) ≡ Some t → Parsed t bs kind vs taken
  accepted_parts kind vs taken a t e =
      let p : Parsed a.table bs kind vs taken = subst (Parsed a.table bs kind vs) a.takes (parsed a.table kind vs a.bytes bs a.written a.begins) in
      let both : Some a.table ≡ Some t = sym a.known_kind ∙ ap known (sym p.kind_is) ∙ e in
      let same : a.table ≡ t = cc in
      subst (λ x. Parsed x bs kind vs taken) same p

  own_parts : (kind : ℕ) (vs : List Point) (taken : ℕ) → (a : Accepted known bs kind vs taken) → Parsed a.table bs kind vs taken
  own_parts kind vs taken a = subst (Parsed a.table bs kind vs) a.takes (parsed a.table kind vs a.bytes bs a.written a.begins)

  own_table : (kind : ℕ) (vs : List Point) (taken : ℕ) → (a : Accepted known bs kind vs taken) → known (word_at bs 2) ≡ Some a.table
  own_table kind vs taken a = ap known (own_parts kind vs taken a).kind_is ∙ a.known_kind

  pub accepted_once : (kind kind' : ℕ) (vs ws : List Point) (n m : ℕ) → Accepted known bs kind vs n → Accepted known bs kind' ws m → (kind ≡ kind') × (vs ≡ ws) × (n ≡ m)
  accepted_once kind kind' vs ws n m a b =
      let p = own_parts kind vs n a in
      let q = accepted_parts kind' ws m b a.table (own_table kind vs n a) in
      (sym p.kind_is ∙ q.kind_is, one_record a.table (keeps kind a.table a.known_kind) bs kind kind' vs ws n m p q, p.size ∙ sym q.size)

  module _ (kind : ℕ) (vs : List Point) (taken : ℕ) (a : Accepted known bs kind vs taken) where
    -- the one refusal of what is accepted is that the list is short
    refused_short : (places : ℕ) (f : Fault) → Refused known bs places f → (f ≡ Full) × (places < length vs)
    refused_short places (Head Short) r = absurd (r (own_parts kind vs taken a).whole)
    refused_short places (Head Kind) r = none-some a.table (sym r.1 ∙ own_table kind vs taken a)
    refused_short places (Head Column) r =
        let p = own_parts kind vs taken a in
        let in_start : Inside (start_at bs) = subst Inside p.first (a.inside 0 (omega (arith, p.count))) in
        absurd (omega (arith, in_start.0, r.2))
    refused_short places (Head Row) r =
        let p = own_parts kind vs taken a in
        let in_start : Inside (start_at bs) = subst Inside p.first (a.inside 0 (omega (arith, p.count))) in
        absurd (omega (arith, in_start.1, r.3))
    refused_short places (Code fault edge bit) (l, (r, wrong)) =
        let t = r.table in
        let p = accepted_parts kind vs taken a t r.head.kind in
        absurd (never_stops t (keeps (word_at bs 2) t r.head.kind) bs kind vs taken p a.inside r.vertices edge bit fault r.start r.count l r.spelled wrong)
    refused_short places (End Trailing edge bit) (e, (r, none)) =
        let t = r.table in
        let p = accepted_parts kind vs taken a t r.head.kind in
        absurd (none (never_trails t (keeps (word_at bs 2) t r.head.kind) bs kind vs taken p r.vertices edge bit r.start r.count e r.spelled))
    refused_short places Full (k, ws, n, b, l) =
        (refl, subst (λ xs. places < length xs) (accepted_once k kind ws vs n taken b a).1 l)

    answered : (before after : List Point) (x : Reading) → length after ≡ length before → ReadRight known bs before after (Ok x)
        → (x ≡ record { kind = kind; bytes = taken; vertices = length vs }) × (length vs ≤ length before) × (after ≡ vs ++ drop (length vs) before)
    answered before after x keep (ws, b, count, filled) =
        let once = accepted_once x.kind kind ws vs x.bytes taken b a in
        let held : after ≡ vs ++ drop (length vs) before = filled ∙ ap (λ xs. xs ++ drop (length xs) before) once.1 in (
          same_reading x once.0 once.2 (sym count ∙ ap length once.1),
          omega (arith, ap length held, length-append vs (drop (length vs) before), length-drop (length vs) before),
          held,
        )
      where
        same_reading : (y : Reading) → y.kind ≡ kind → y.bytes ≡ taken → y.vertices ≡ length vs → y ≡ record { kind = kind; bytes = taken; vertices = length vs }
        same_reading y p q r =
            ap (λ k. reading k y.bytes y.vertices) p ∙ ap (λ n. reading kind n y.vertices) q ∙ ap (reading kind taken) r

  pub read_exact : (before after : List Point) (r : Result Reading Fault) → length after ≡ length before → ReadRight known bs before after r → ReadExact known bs before after r
  read_exact before after (Ok x) keep right kind vs taken a =
      let h = answered kind vs taken a before after x keep right in
      (λ l. (ap Ok h.0, h.2), λ l. absurd (omega (arith, h.1)))
  read_exact before after (Err f) keep right kind vs taken a =
      let h = refused_short kind vs taken a (length before) f right.0 in
      (λ l. absurd (omega (arith, h.1)), λ l. ap Err h.0)

-- the one table of a reader of one kind
pub only_codes : (kind : ℕ) (t : Table) → Codes t → (k : ℕ) (t' : Table) → only kind t k ≡ Some t' → Codes t'
only_codes kind t keeps k t' e = at (eqb k kind) e
  where
    at : (b : Bool) → cond b (Some t) None ≡ Some t' → Codes t'
    at true s = let same : t ≡ t' = cc in subst Codes same keeps
    at false s = none-some t' s

pub written_once : (known : Kinds) → OneRecord known
written_once known bs bs' kind vs n m a b =
    let both : Some a.table ≡ Some b.table = sym a.known_kind ∙ b.known_kind in
    let same : a.table ≡ b.table = cc in
    let twice : Some a.bytes ≡ Some b.bytes = sym a.written ∙ ap (λ t. record_of t kind vs) same ∙ b.written in
    let bytes : a.bytes ≡ b.bytes = cc in (
      sym a.takes ∙ ap length bytes ∙ b.takes,
      ap (λ k. take k bs) (sym a.takes) ∙ a.begins ∙ bytes ∙ sym b.begins ∙ ap (λ k. take k bs') b.takes,
    )

pub apart_kinds : (known : Kinds) → ((k : ℕ) (t : Table) → known k ≡ Some t → Codes t) → KindsApart known
apart_kinds known keeps kind kind' t t' vs ws bytes bytes' k k' p q begins =
    let a = parsed t kind vs bytes bytes' p begins in
    let b = parsed t' kind' ws bytes' bytes' q (take_all (length bytes') bytes' (omega arith)) in
    let one : kind ≡ kind' = sym a.kind_is ∙ b.kind_is in
    let both : Some t' ≡ Some t = sym k' ∙ ap known (sym one) ∙ k in
    let same : t' ≡ t = cc in
    (one, one_record t (keeps kind t k) bytes' kind kind' vs ws (length bytes) (length bytes') a (subst (λ x. Parsed x bytes' kind' ws (length bytes')) same b))

pub apart_records : (t : Table) → Codes t → RecordsApart t
apart_records t keeps kind vs ws bytes bytes' p q begins =
    one_record t keeps bytes' kind kind vs ws (length bytes) (length bytes') (parsed t kind vs bytes bytes' p begins) (parsed t kind ws bytes' bytes' q (take_all (length bytes') bytes' (omega arith)))
