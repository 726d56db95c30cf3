-- A run, one call further.
use Rattle.std.proofs.Common.{◌≡◌, ℕ, ◌+◌, ◌<◌, ◌≤◌, ◌⊎◌, List, [], ◌∷◌, ◌++◌, length, get_or, take, drop, set, sym, ap, ◌∙◌, subst, subst₂, ⊎_elim, arith}
use Rattle.std.proofs.lemmas.List.{take_more, take_more_set, take_all, drop_all, drop-drop, drop-set-lt}
use Rattle.outline.specs.Rules.{Rules}
use Rattle.replay.specs.Right.{Tools, State, Right}
use Rattle.replay.specs.Runs.{noted, SameLengths, Run}
use Rattle.replay.specs.Runs.Run.{done, step}
use Rattle.replay.specs.declared.answer.Answer.{Answer}
use Rattle.replay.specs.declared.call.Call.{Call}
use Rattle.replay.specs.declared.entry.Entry.{Entry}

module _ {C W : Type 0} (t : Tools C W) where
  pub run_push : {s u : State C} {cs : List Call} {es : List (Entry C)} (v : State C) (c : Call) (a : Answer C) → Run t s cs es u → Right t u c a v → SameLengths u v → Rules v.outline → Run t s (cs ++ c ∷ []) (es ++ noted a v.list ∷ []) v
  run_push v c a (done o) n k w = step o n k (done w)
  run_push v c a (step o m l r) n k w = step o m l (run_push v c a r n k w)

  pub run_more : (s u v : State C) (cs : List Call) (es : List (Entry C)) (i : ℕ) (d : Call) (a : Answer C) → i < length cs → i < length es
      → Run t s (take i cs) (take i es) u → Right t u (get_or cs i d) a v → SameLengths u v → Rules v.outline → Run t s (take (i + 1) cs) (take (i + 1) (set es i (noted a v.list))) v
  run_more s u v cs es i d a l m r n k w =
      subst₂ (λ xs ys. Run t s xs ys v) (sym (take_more cs i d l)) (sym (take_more_set es i (noted a v.list) m)) (run_push v (get_or cs i d) a r n k w)

  -- the loop ends at the last call or at the last entry
  pub run_ended : (s u : State C) (cs : List Call) (es : List (Entry C)) (i n : ℕ) → length es ≡ n → i ≤ length cs → i ≤ n → (length cs ≤ i) ⊎ (n ≤ i)
      → Run t s (take i cs) (take i es) u → Run t s (take n cs) (take (length cs) es) u
  run_ended s u cs es i n long l m end r =
      let calls : take i cs ≡ take n cs = ⊎_elim (λ k. take_all i cs k ∙ sym (take_all n cs (omega arith))) (λ k. ap (λ j. take j cs) (omega arith)) end in
      let entries : take i es ≡ take (length cs) es = ⊎_elim (λ k. ap (λ j. take j es) (omega arith)) (λ k. take_all i es (omega arith) ∙ sym (take_all (length cs) es (omega arith))) end in
      subst₂ (λ xs ys. Run t s xs ys u) calls entries r

module _ {X : Type 0} where
  pub kept_ended : (old es : List X) (i n : ℕ) → length es ≡ length old → i ≤ n → (n ≤ i) ⊎ (length old ≤ i) → drop i es ≡ drop i old → drop n es ≡ drop n old
  kept_ended old es i n long l end e =
      ⊎_elim
      (λ k. let same : i ≡ n = omega arith in subst (λ j. drop j es ≡ drop j old) same e)
      (λ k. drop_all n es (omega arith) ∙ sym (drop_all n old (omega arith)))
      end

  pub kept_more : (old es : List X) (i : ℕ) (e : X) → drop i es ≡ drop i old → drop (i + 1) (set es i e) ≡ drop (i + 1) old
  kept_more old es i e k = drop-set-lt (i + 1) es i e (omega arith) ∙ sym (drop-drop 1 i es) ∙ ap (drop 1) k ∙ drop-drop 1 i old
