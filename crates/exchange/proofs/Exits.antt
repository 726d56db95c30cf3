-- What encode answers at each of its ends.
use Rattle.std.proofs.Common.{◌≡◌, ℕ, ◌≤◌, List, length, IfOk, Ok, Err, Option, Result, sym, refl, ap, subst, subst₂, inl, inr, arith}
use Rattle.coding.specs.Kinds.{kind_number, kind_table}
use Rattle.coding.specs.Tables.{Table}
use Rattle.coding.specs.declared.kind.Kind.{Kind as KindOfCode}
use Rattle.measure.specs.Measures.{Strays}
use Rattle.outline.specs.Plain.{Plain, plain}
use Rattle.outline.specs.declared.outline.Outline.{Outline}
use Rattle.outline.specs.declared.refusal.Refusal.{Refusal}
use Rattle.outline.specs.declared.refusal.Refusal.TheVariants.{BufferShort, Kind}
use Rattle.records.proofs.Known.{kind_known, kind_unknown}
use Rattle.records.specs.Reading.{Refused, all_kinds}
use Rattle.records.specs.declared.fault.Fault.{Fault}
use Rattle.records.specs.declared.written.Written.{Written}
use Rattle.tracing.specs.Tracing.{chain_only, TracedRight}
use Rattle.exchange.proofs.Written.{written_within, written_ample}
use Rattle.exchange.specs.Encoding.{BestWritten, Encoded, unplaced}
use Rattle.exchange.specs.declared.failure.Failure.{Failure}
use Rattle.exchange.specs.declared.failure.Failure.TheVariants.{Record as AtRecord, Refused as ByRefusal}
use Rattle.closest.specs.declared.goal.Goal.{Goal}

module _ (n : ℕ) (strays : Strays) (goal : Goal) (bs before : List ℕ) where
  -- the three promises of encode
  abbrev Promised : List ℕ → Result Written Failure → Type 0
  Promised after r =
      Encoded (all_kinds n) n strays goal bs before after r × IfOk r (λ w. w.bytes ≤ length before) × (743 ≤ length before → r ≡ Err (ByRefusal BufferShort) → ⊥)

  refused_with : (after : List ℕ) (r : Result Written Failure) (f : Failure) → r ≡ Err f → (f ≡ ByRefusal BufferShort → ⊥) → Encoded (all_kinds n) n strays goal bs before after (Err f) → Promised after r
  refused_with after r f e other right =
      subst (Promised after) (sym e) (right, tt, λ room same. other (let is : f ≡ ByRefusal BufferShort = cc in is))

  pub at_unknown : (r : Result Written Failure) → ((k : KindOfCode) → kind_number k ≡ n → ⊥) → r ≡ Err (ByRefusal Kind) → Promised before r
  at_unknown r none e =
      refused_with before r (ByRefusal Kind) e
      (λ same. let z : ◌≡◌ {A = ℕ} 0 1 = cc in absurd (omega arith))
      (subst (λ (t : Option Table). Encoded t n strays goal bs before before (Err (ByRefusal Kind))) (sym (kind_unknown n none)) (refl, refl))

  module _ (k : KindOfCode) (is : kind_number k ≡ n) where
    pub at_fault : (r : Result Written Failure) (f : Fault) → Refused chain_only bs 256 f → r ≡ Err (AtRecord f) → Promised before r
    at_fault r f wrong e =
        refused_with before r (AtRecord f) e
        (λ same. let z : ◌≡◌ {A = ℕ} 0 1 = cc in absurd (omega arith))
        (subst (λ (t : Option Table). Encoded t n strays goal bs before before (Err (AtRecord f))) (sym (kind_known k n is)) (inl (f, wrong, refl, refl)))

    module _ (o : Outline) (traced : TracedRight bs (Ok o)) (after : List ℕ) where
      abbrev Wrote : Result Written Refusal → Type 0
      Wrote w = BestWritten (kind_table k) (kind_number k) strays goal (plain o).points before after w

      encoded : (w : Result Written Refusal) → Wrote w → Encoded (all_kinds n) n strays goal bs before after (unplaced w)
      encoded w wrote =
          let same : (plain o).points ≡ traced.0 = ap (λ (p : Plain). p.points) traced.3 in
          let here = subst₂ (λ ps m. BestWritten (kind_table k) m strays goal ps before after w) same is wrote in
          subst (λ (t : Option Table). Encoded t n strays goal bs before after (unplaced w)) (sym (kind_known k n is)) (inr (traced.0, traced.1, traced.2, (w, here, refl)))

      pub at_refusal : (r : Result Written Failure) (e : Refusal) → Wrote (Err e) → r ≡ Err (ByRefusal e) → Promised after r
      at_refusal r e wrote is =
          subst (Promised after) (sym is) (
            encoded (Err e) wrote,
            tt,
            λ room same. written_ample k (kind_number k) strays goal (plain o).points before after room e wrote (let short : e ≡ BufferShort = cc in short),
          )

      pub at_end : (w : Written) → Wrote (Ok w) → Promised after (Ok w)
      at_end w wrote = (
        encoded (Ok w) wrote,
        written_within k (kind_number k) strays goal (plain o).points before after w wrote,
        λ room same. let z : ◌≡◌ {A = ℕ} 0 1 = cc in absurd (omega arith),
      )
