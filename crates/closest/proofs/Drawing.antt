-- A sample with one more candidate.
use Rattle.std.proofs.Common.{◌≡◌, ℕ, ◌+◌, Some, None, Option, sym, ap, ◌∙◌, subst, inl, inr, ⊎_elim, arith}
use Rattle.measure.specs.declared.fraction.Fraction.{Fraction}
use Rattle.std.proofs.lemmas.Bool.{cases_lt}
use Rattle.closest.specs.Gaps.{Among, Drawn, Grown}
use Rattle.closest.specs.declared.sample.Sample.{Sample}

module _ (candidates : ℕ → ℕ → Option Fraction) where
  -- an edge that is a candidate
  pub drawn_more : (to from : ℕ) (old : Option Sample) (x : Fraction) (new : Sample) → Drawn candidates to from old → candidates from to ≡ Some x → Grown old x new → Drawn candidates to (from + 1) (Some new)
  drawn_more to from None x new h e grown k l = (from, to, e ∙ ap Some (sym (grown k l)))
  drawn_more to from (Some old) x new h e grown k l =
      ⊎_elim
      (λ is. (from, to, e ∙ ap Some (sym is)))
      (λ is. let was = h k l in (was.0, was.1, was.2 ∙ ap Some (sym is)))
      (grown k l)

  -- an edge that is none
  pub drawn_skips : (to from : ℕ) (old : Option Sample) → Drawn candidates to from old → candidates from to ≡ None → Drawn candidates to (from + 1) old
  drawn_skips to from (Some old) h e = h
  drawn_skips to from None h e = λ i j rises done.
      ⊎_elim
      (λ below. h i j rises (inl below))
      (λ at. ⊎_elim
      (λ low. h i j rises (inr (at.0, low)))
      (λ high. let same_to = at.0 in let near = at.1 in let same : i ≡ from = omega arith in ap (λ k. candidates k j) same ∙ ap (candidates from) at.0 ∙ e)
      (cases_lt i from))
      done

  -- what a sample keeps is a candidate
  pub drawn_middle : (to from : ℕ) (o : Option Sample) (s : Sample) (x : Fraction) → Drawn candidates to from o → o ≡ Some s → Among s x → (i : ℕ) × (j : ℕ) × (candidates i j ≡ Some x)
  drawn_middle to from o s x h e at =
      let was = subst (Drawn candidates to from) e h at.0 at.1 in
      (was.0, was.1, was.2 ∙ ap Some (sym at.2))
