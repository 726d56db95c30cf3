-- From the polygon found to the record written.
use Rattle.std.proofs.Common.{◌≡◌, ℕ, ◌≤◌, leb, List, length, take, Some, None, Ok, Err, Option, Result, sym, refl, ap, ◌∙◌, subst, ap₂, ⊎_elim, arith}
use Rattle.std.proofs.lemmas.Bool.{cases_Bool, cond-false, cond-true, le-leb, leb-true}
use Rattle.coding.specs.Kinds.{kind_number, kind_table}
use Rattle.coding.specs.declared.kind.Kind.{Kind}
use Rattle.measure.specs.Fractions.{fraction}
use Rattle.measure.specs.Measures.{Strays}
use Rattle.measure.specs.declared.fraction.Fraction.{Fraction}
use Rattle.outline.specs.declared.point.Point.{Point}
use Rattle.outline.specs.declared.refusal.Refusal.{Refusal}
use Rattle.outline.specs.declared.refusal.Refusal.TheVariants.{BufferShort, NoUsable, OverBudget}
use Rattle.records.proofs.Known.{kind_known, kinds_codes}
use Rattle.records.specs.Numbered.{code_answer, Recorded}
use Rattle.records.specs.Writing.{stored}
use Rattle.records.specs.declared.written.Written.{Written}
use Rattle.search.specs.Cheapest.{CheapestBest}
use Rattle.search.specs.declared.by_price.PricedPolygon.{PricedPolygon}
use Rattle.exchange.proofs.Choosing.{best_usable}
use Rattle.exchange.proofs.Sizes.{kind_short, record_there}
use Rattle.exchange.specs.Encoding.{FoundWritten, BestWritten}
use Rattle.closest.specs.Goals.{BestFor}
use Rattle.closest.specs.declared.goal.Goal.{Goal}
use Rattle.closest.specs.declared.goal.Goal.TheVariants.{Tolerance, Budget}

module _ (k : Kind) (kind : ℕ) (strays : Strays) (goal : Goal) (ps : List Point) (few : length ps ≤ 256) (list before after : List ℕ) where
  pub found_written : (a : PricedPolygon) (r : Result Written Refusal) → BestFor goal (kind_table k) strays ps list (Ok a) → Recorded (kind_table k) kind ps (take a.vertices list) before after r
      → FoundWritten (kind_table k) kind ps list before after (Ok a) r
  found_written a r best written =
      let usable = best_usable (kind_table k) strays ps (kinds_codes (kind_number k) (kind_table k) (kind_known k (kind_number k) refl)) list a goal best in
      let there = record_there (kind_table k) (kind_short k) kind ps (take a.vertices list) few usable.0 in
      let polygon = usable.0.0 in (
        there.0,
        there.1,
        there.2,
        written.answered polygon ∙ ap₂ (λ o n. code_answer o n (length before)) there.1 (sym usable.1),
        written.buffer polygon ∙ ap (λ o. stored o before) there.1,
      )

-- the answer to a record that is there, and the room for it
answered_within : (bytes : List ℕ) (bits room : ℕ) (w : Written) → Ok w ≡ code_answer (Some bytes) bits room → w.bytes ≤ room
answered_within bytes bits room w e =
    ⊎_elim
    (λ yes. let same : Ok w ≡ Ok (record { bytes = length bytes; bits = bits }) = e ∙ cond-true (leb (length bytes) room) _ _ yes in
    let is : w ≡ record { bytes = length bytes; bits = bits } = cc in
    omega (arith, ap (λ (v : Written). v.bytes) is, leb-true (length bytes) room yes))
    (λ no. let differ : Ok w ≡ Err BufferShort = e ∙ cond-false (leb (length bytes) room) _ _ no in
    let z : ◌≡◌ {A = ℕ} 0 1 = cc in absurd (omega arith))
    (cases_Bool (leb (length bytes) room))

answered_ample : (bytes : List ℕ) (bits room : ℕ) → length bytes ≤ room → Err BufferShort ≡ code_answer (Some bytes) bits room → ⊥
answered_ample bytes bits room fits e =
    let same : ◌≡◌ {A = Result Written Refusal} (Err BufferShort) (Ok (record { bytes = length bytes; bits = bits })) = e ∙ cond-true (leb (length bytes) room) _ _ (le-leb (length bytes) room fits) in
    let z : ◌≡◌ {A = ℕ} 0 1 = cc in absurd (omega arith)

module _ (k : Kind) (strays : Strays) (ps : List Point) (list : List ℕ) where
  no_room_priced : (t : Option Fraction) → CheapestBest (kind_table k) strays t ps list (Err BufferShort) → ⊥
  no_room_priced (Some t) h = let e : BufferShort ≡ NoUsable = h.0.0 in let z : ◌≡◌ {A = ℕ} 0 1 = cc in absurd (omega arith)
  no_room_priced None h = let z : ◌≡◌ {A = ℕ} 0 1 = cc in absurd (omega arith)

  -- no search is refused by 25
  no_room : (goal : Goal) → BestFor goal (kind_table k) strays ps list (Err BufferShort) → ⊥
  no_room (Tolerance top bottom) h = no_room_priced (fraction top bottom) h
  no_room (Budget bits) h =
      ⊎_elim
      (λ p. let e : BufferShort ≡ NoUsable = p.0 in let z : ◌≡◌ {A = ℕ} 0 1 = cc in absurd (omega arith))
      (λ p. let e : BufferShort ≡ OverBudget = p.0 in let z : ◌≡◌ {A = ℕ} 0 1 = cc in absurd (omega arith))
      h

module _ (k : Kind) (kind : ℕ) (strays : Strays) (goal : Goal) (ps : List Point) (before after : List ℕ) where
  abbrev Wrote : Result Written Refusal → Type 0
  Wrote r = BestWritten (kind_table k) kind strays goal ps before after r

  pub written_within : (w : Written) → Wrote (Ok w) → w.bytes ≤ length before
  written_within w (list, Ok a, best, (bytes, is, fits, said, held)) = answered_within bytes a.bits (length before) w said
  written_within w (list, Err e, best, (said, held)) = let z : ◌≡◌ {A = ℕ} 0 1 = cc in absurd (omega arith)

  pub written_ample : 743 ≤ length before → (e : Refusal) → Wrote (Err e) → e ≡ BufferShort → ⊥
  written_ample room e (list, Ok a, best, (bytes, is, fits, said, held)) same =
      answered_ample bytes a.bits (length before) (omega arith) (ap (λ x. Err x) (sym same) ∙ said)
  written_ample room e (list, Err f, best, (said, held)) same =
      let other : f ≡ BufferShort = cc in
      no_room k strays ps list goal (subst (λ x. BestFor goal (kind_table k) strays ps list (Err x)) other best)
