-- A run is the run of its calls of open, extend and retract.
use Rattle.std.proofs.Common.{◌≡◌, List, ◌∷◌, Result, refl, ap, ◌∙◌}
use Rattle.outline.specs.Plain.{answer}
use Rattle.outline.specs.Runs.{after, answers, made}
use Rattle.outline.specs.declared.call.Call.{Call as Trace}
use Rattle.outline.specs.declared.call.Call.TheVariants.{Open as open_call, Extend as extend_call, Retract as retract_call}
use Rattle.outline.specs.declared.refusal.Refusal.{Refusal}
use Rattle.replay.specs.Right.{Tools, State, Right, TracedRight}
use Rattle.replay.specs.Runs.{Run}
use Rattle.replay.specs.Runs.Run.{done, step}
use Rattle.replay.specs.Traced.{traced_call, traced_calls, traced_answer, traced_answers, AsTraced}
use Rattle.replay.specs.declared.answer.Answer.{Answer}
use Rattle.replay.specs.declared.call.Call.{Call}
use Rattle.replay.specs.declared.call.Call.TheVariants.{Open, Extend, Retract, Least, Cheapest, Finest, Closest}
use Rattle.replay.specs.declared.entry.Entry.{Entry}

module _ {C W : Type 0} (t : Tools C W) where
  by_tracing : (s u : State C) (a : Answer C) (c : Trace) (ts : List Trace) (rs : List (Result (Unit {0}) Refusal)) → TracedRight s (made s.outline c) a u → rs ≡ answers u.outline ts
      → (after u.outline ts ≡ after s.outline (c ∷ ts)) × (traced_answer a rs ≡ answers s.outline (c ∷ ts))
  by_tracing s u a c ts rs r e = (
    ap (λ p. after p ts) r.outline,
    ap (λ x. traced_answer x rs) r.said ∙ ap (λ xs. answer (made s.outline c) ∷ xs) (e ∙ ap (λ p. answers p ts) r.outline),
  )

  by_search : (s u : State C) (ts : List Trace) (rs : List (Result (Unit {0}) Refusal)) → u.outline ≡ s.outline → rs ≡ answers u.outline ts
      → (after u.outline ts ≡ after s.outline ts) × (rs ≡ answers s.outline ts)
  by_search s u ts rs o e = (ap (λ p. after p ts) o, e ∙ ap (λ p. answers p ts) o)

  one : (s u : State C) (c : Call) (a : Answer C) (ts : List Trace) (rs : List (Result (Unit {0}) Refusal)) → Right t s c a u → rs ≡ answers u.outline ts
      → (after u.outline ts ≡ after s.outline (traced_call c ts)) × (traced_answer a rs ≡ answers s.outline (traced_call c ts))
  one s u (Open width height col row) a ts rs r e = by_tracing s u a (open_call width height col row) ts rs r e
  one s u (Extend direction) a ts rs r e = by_tracing s u a (extend_call direction) ts rs r e
  one s u Retract a ts rs r e = by_tracing s u a retract_call ts rs r e
  one s u Least a ts rs r e = let b = by_search s u ts rs r.2.outline e in (b.0, ap (λ x. traced_answer x rs) r.1 ∙ b.1)
  one s u (Cheapest top bottom) a ts rs r e = let b = by_search s u ts rs r.2.outline e in (b.0, ap (λ x. traced_answer x rs) r.1 ∙ b.1)
  one s u Finest a ts rs r e = let b = by_search s u ts rs r.2.outline e in (b.0, ap (λ x. traced_answer x rs) r.1 ∙ b.1)
  one s u (Closest budget) a ts rs r e = let b = by_search s u ts rs r.2.outline e in (b.0, ap (λ x. traced_answer x rs) r.1 ∙ b.1)

  pub as_traced : {s v : State C} {cs : List Call} {es : List (Entry C)} → Run t s cs es v → AsTraced s.outline cs es v.outline
  as_traced (done o) = record { outline = refl; said = refl }
  as_traced (step {s} {u} {v} {c} {a} {cs} {es} o n k r) =
      let more = as_traced r in
      let b = one s u c a (traced_calls cs) (traced_answers es) n more.said in
      record { outline = more.outline ∙ b.0; said = b.1 }
