-- A run of calls, one call further.
use Rattle.std.proofs.Common.{◌≡◌, ℕ, suc, ◌+◌, ◌<◌, List, [], ◌∷◌, ◌++◌, length, get_or, take, drop, set, Result, sym, refl, ap, ◌∙◌, append_assoc, arith}
use Rattle.std.proofs.lemmas.List.{take_more, drop_more, set_at, length-take-le}
use Rattle.outline.specs.declared.call.Call.{Call}
use Rattle.outline.specs.declared.refusal.Refusal.{Refusal}
use Rattle.outline.specs.Plain.{Plain, answer, left_by}
use Rattle.outline.specs.Runs.{made, after, answers}

abbrev Answers : Type 0
Answers = List (Result (Unit {0}) Refusal)

pub after_push : (p : Plain) (cs : List Call) (c : Call) → after p (cs ++ c ∷ []) ≡ left_by (after p cs) (made (after p cs) c)
after_push p [] c = refl
after_push p (x ∷ cs) c = after_push (left_by p (made p x)) cs c

pub answers_push : (p : Plain) (cs : List Call) (c : Call) → answers p (cs ++ c ∷ []) ≡ answers p cs ++ answer (made (after p cs) c) ∷ []
answers_push p [] c = refl
answers_push p (x ∷ cs) c = ap (λ rs. answer (made p x) ∷ rs) (answers_push (left_by p (made p x)) cs c)

pub length_answers : (p : Plain) (cs : List Call) → length (answers p cs) ≡ length cs
length_answers p [] = refl
length_answers p (x ∷ cs) = ap suc (length_answers (left_by p (made p x)) cs)

module _ (p : Plain) (cs : List Call) (old : Answers) (i : ℕ) (d : Call) (l : i < length cs) where
  more : take (i + 1) cs ≡ take i cs ++ get_or cs i d ∷ []
  more = take_more cs i d l

  pub after_more : (q : Plain) → q ≡ after p (take i cs) → left_by q (made q (get_or cs i d)) ≡ after p (take (i + 1) cs)
  after_more q e = ap (λ x. left_by x (made x (get_or cs i d))) e ∙ sym (after_push p (take i cs) (get_or cs i d)) ∙ ap (after p) (sym more)

  pub answers_more : (q : Plain) (rs : Answers) → q ≡ after p (take i cs) → i < length old → rs ≡ answers p (take i cs) ++ drop i old → set rs i (answer (made q (get_or cs i d))) ≡ answers p (take (i + 1) cs) ++ drop (i + 1) old
  answers_more q rs e m f =
      let n : length (answers p (take i cs)) ≡ i = length_answers p (take i cs) ∙ length-take-le i cs (omega arith) in
      let x = answer (made q (get_or cs i d)) in
      let split : rs ≡ answers p (take i cs) ++ get_or old i x ∷ drop (i + 1) old = f ∙ ap (λ d. answers p (take i cs) ++ d) (drop_more old i x m) in
      let here : x ≡ answer (made (after p (take i cs)) (get_or cs i d)) = ap (λ y. answer (made y (get_or cs i d))) e in
      ap (λ ys. set ys i x) split
      ∙ set_at (answers p (take i cs)) (get_or old i x) (drop (i + 1) old) x i n
      ∙ ap (λ y. answers p (take i cs) ++ y ∷ drop (i + 1) old) here
      ∙ sym (append_assoc (answers p (take i cs)) (answer (made (after p (take i cs)) (get_or cs i d)) ∷ []) (drop (i + 1) old))
      ∙ ap (λ ys. ys ++ drop (i + 1) old) (sym (answers_push p (take i cs) (get_or cs i d)) ∙ ap (answers p) (sym more))
