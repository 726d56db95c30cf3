-- What a test of each two neighbours says of a rising list.
use Rattle.std.proofs.Common.{◌≡◌, ℕ, suc, ◌+◌, ◌<◌, ◌≤◌, ltb, Bool, true, false, List, length, get_or, Decides, refl, sym, add-one, arith}
use Rattle.std.specs.List.{IsAllAdjacentAnswer}
use Rattle.std.proofs.lemmas.Bool.{ltb-true, ltb-false}

pub rising_answer : (xs : List ℕ) (r : Bool) → IsAllAdjacentAnswer (λ x y b. b ≡ ltb x y) xs r → Decides r ((k : ℕ) → suc k < length xs → get_or xs k 0 < get_or xs (suc k) 0)
rising_answer xs true h = (λ _ k l. let rise : get_or xs k 0 < get_or xs (k + 1) 0 = ltb-true _ _ (sym (h k 0 (omega arith))) in simp add-one at rise, λ _. refl)
rising_answer xs false h = (
  λ e. absurd (let z : false ≡ true = e in cc),
  λ all. let low : get_or xs h.0 0 < get_or xs (h.0 + 1) 0 = simp add-one (all h.0 (omega (arith, h.1))) in
      let high : get_or xs (h.0 + 1) 0 ≤ get_or xs h.0 0 = ltb-false _ _ (sym (h.2 0)) in absurd (omega arith),
)
