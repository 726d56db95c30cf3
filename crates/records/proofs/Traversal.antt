-- Reading along the codes: one vertex further, and where it stops.
use Rattle.std.proofs.Common.{◌≡◌, ℕ, suc, ◌+◌, ◌-◌, ◌<◌, Bool, List, [], ◌∷◌, ◌++◌, length, get_or, take, drop, set, Ok, Err, Result, sym, refl, ap, ◌∙◌, subst, ap₂, ⊎_elim, arith, length-append, length-take, MatchResult}
use Rattle.std.proofs.lemmas.List.{take_more_set, get_or_append_left, get_or_push, length_push}
use Rattle.std.proofs.lemmas.Bool.{cases_lt}
use Rattle.outline.specs.declared.point.Point.{Point}
use Rattle.outline.specs.Held.{origin}
use Rattle.coding.specs.Tables.{Table}
use Rattle.records.specs.declared.fault.CoderFault.{CoderFault}
use Rattle.records.specs.declared.fault.Fault.{Fault}
use Rattle.records.specs.declared.fault.Fault.TheVariants.{Code}
use Rattle.records.specs.Reading.{Inside, Spelled, WrongCode}
use Rattle.records.specs.Steps.{Leads, Stepped, Stopped, Traversed}
use Rattle.records.proofs.Spelling.{begins_more, codes_push, last_of, last_is}

pub inside_push : (vs : List Point) (v : Point) → ((k : ℕ) → k < length vs → Inside (get_or vs k origin)) → Inside v → (k : ℕ) → k < length (vs ++ v ∷ []) → Inside (get_or (vs ++ v ∷ []) k origin)
inside_push vs v old new k l =
    let n : length (vs ++ v ∷ []) ≡ length vs + 1 = length_push vs v in
    ⊎_elim
    (λ low. subst Inside (sym (get_or_append_left vs (v ∷ []) origin k low)) (old k low))
    (λ high. subst Inside (sym (get_or_push vs v origin k (omega arith))) new)
    (cases_lt k (length vs))

pub spelled_push : (t : Table) (row : List Bool) (u : Point) (vs : List Point) (bit : ℕ) (v : Point) (n : ℕ)
    → Spelled t row (u ∷ vs) bit → Leads t (drop bit row) (last_of u vs) v n → Spelled t row ((u ∷ vs) ++ v ∷ []) (bit + n)
spelled_push t row u vs bit v n s l =
    record {
      codes = s.codes ++ l.code;
      coded = codes_push t u vs v s.codes l.code s.coded l.coded;
      begins = begins_more s.codes l.code row s.begins (ap (λ b. take (length l.code) (drop b row)) s.ends ∙ l.begins);
      ends = length-append s.codes l.code ∙ ap₂ (λ a b. a + b) s.ends (sym l.long);
      inside = inside_push (u ∷ vs) v s.inside l.inside;
    }

last_push : (u : Point) (vs : List Point) (v : Point) → last_of u (vs ++ v ∷ []) ≡ v
last_push u [] v = refl
last_push u (w ∷ ws) v = last_push w ws v

-- the places one vertex further
pub spelled_more : (t : Table) (row : List Bool) (start : Point) (places : List Point) (e bit : ℕ) (from v : Point) (n : ℕ) → e < length places → from ≡ last_of start (take e places)
    → Spelled t row (start ∷ take e places) bit → Leads t (drop bit row) from v n → (v ≡ last_of start (take (e + 1) (set places e v))) × Spelled t row (start ∷ take (e + 1) (set places e v)) (bit + n)
spelled_more t row start places e bit from v n room last s l =
    let more = take_more_set places e v room in (
      sym (ap (last_of start) more ∙ last_push start (take e places) v),
      subst (λ vs. Spelled t row (start ∷ vs) (bit + n)) (sym more) (spelled_push t row start (take e places) bit v n s (subst (λ p. Leads t (drop bit row) p v n) last l)),
    )

-- all places are filled
pub traversed_all : (t : Table) (row : List Bool) (start : Point) (places : List Point) (e edges bit : ℕ) → e ≡ edges → Spelled t row (start ∷ take e places) bit → Traversed t row start edges (start ∷ places) (Ok bit)
traversed_all t row start places e edges bit all s =
    let more : suc e ≡ edges + 1 = omega arith in
    let front : start ∷ take e places ≡ take (edges + 1) (start ∷ places) = ap (λ n. take n (start ∷ places)) more in
    (subst (λ vs. Spelled t row vs bit) front s, refl)

-- reading stops at edge e + 1
pub stopped_at : (t : Table) (row row' : List Bool) (start : Point) (places : List Point) (edges e bit : ℕ) (from : Point) (r : Result (Point × ℕ) CoderFault) (k : CoderFault) → e < edges → e < length places → from ≡ last_of start (take e places)
    → Spelled t row (start ∷ take e places) bit → row' ≡ drop bit row → Stepped t row' from r → r ≡ Err k → Stopped t row start edges k (e + 1) bit
stopped_at t row row' start places edges e bit from r k below room last s same step err =
    let long : length (take e places) ≡ e + 1 - 1 = simp length-take (omega arith) in
    let here : from ≡ get_or (start ∷ take e places) (e + 1 - 1) origin = last ∙ sym (last_is start (take e places) origin) ∙ ap (λ i. get_or (start ∷ take e places) i origin) long in
    let wrong : WrongCode t row' from k = subst (Stepped t row' from) err step in
    record {
      within = omega arith;
      vertices = start ∷ take e places;
      first = refl;
      count = omega (arith, long);
      spelled = s;
      wrong = subst (λ p. WrongCode t (drop bit row) p k) here (subst (λ x. WrongCode t x from k) same wrong);
    }

-- what a call gave whose faults are passed on with their place
pub mapped_ok : {T E : Type 0} (D : Type 0) (r : Result T E) (y : T) → MatchResult r (λ x. ◌≡◌ {A = Result T D} (Ok y) (Ok x)) (λ _. ⊥) → r ≡ Ok y
mapped_ok D (Ok x) y same = cc
mapped_ok D (Err e) y none = absurd none

pub mapped_err : {T E D : Type 0} {P : E → Type 0} (r : Result T E) (f : D) (made : E → D) → MatchResult r (λ x. ◌≡◌ {A = Result T D} (Err f) (Ok x)) P → ((e : E) → P e → f ≡ made e) → (e : E) × (r ≡ Err e) × (f ≡ made e)
mapped_err (Ok x) f made none by = let z : ◌≡◌ {A = ℕ} 0 1 = cc in absurd (omega arith)
mapped_err (Err e) f made was by = (e, refl, by e was)

pub traversed_err : (t : Table) (row : List Bool) (start : Point) (edges : ℕ) (at : List Point) (k : CoderFault) (edge bit : ℕ) (r : Result ℕ Fault) → r ≡ Err (Code k edge bit) → Stopped t row start edges k edge bit → Traversed t row start edges at r
traversed_err t row start edges at k edge bit r e s = subst (Traversed t row start edges at) (sym e) s

pub stepped_to : (t : Table) (row row' : List Bool) (from : Point) (r : Result (Point × ℕ) CoderFault) (to : Point) (n : ℕ) → row ≡ row' → Stepped t row from r → r ≡ Ok (to, n) → Leads t row' from to n
stepped_to t row row' from r to n e s o = subst (λ x. Leads t x from to n) e (subst (Stepped t row from) o s)
