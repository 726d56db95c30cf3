-- The measure that a name is read as.
use Rattle.std.proofs.Common.{◌≡◌, ℕ, List, Some, None, Result, Ok, Err, codes, refl, sym, ◌∙◌, subst, ⊎_elim}
use Rattle.std.specs.Result.{result_ok}
use Rattle.std.specs.Str.{bytes_eq}
use Rattle.std.proofs.lemmas.Bool.{cases_Bool, cond-true, cond-false}
use Rattle.std.proofs.lemmas.Slice.Eq.{bytes_eq-Decides}
use Rattle.measure.specs.declared.chosen.Chosen.{Chosen}
use Rattle.measure.specs.declared.chosen.Chosen.TheVariants.{Line, Pace}
use Rattle.measure.specs.declared.chosen.UnknownMeasure.{UnknownMeasure}
use Rattle.measure.specs.Texts.{Named}
use Rattle.exchange.specs.Words.{measure_in}

pub named_in : (text : List ℕ) (r : Result Chosen UnknownMeasure) → Named text r → result_ok r ≡ measure_in text
named_in text (Ok Line) is = subst (λ t. Some Line ≡ measure_in t) is refl
named_in text (Ok Pace) is = subst (λ t. Some Pace ≡ measure_in t) is refl
named_in text (Err e) none =
    ⊎_elim
    (λ t. absurd (none Line (sym ((bytes_eq-Decides text (codes "line")).0 t))))
    (λ f. ⊎_elim
    (λ t. absurd (none Pace (sym ((bytes_eq-Decides text (codes "pace")).0 t))))
    (λ g. sym (cond-false (bytes_eq text (codes "line")) _ _ f ∙ cond-false (bytes_eq text (codes "pace")) _ _ g))
    (cases_Bool (bytes_eq text (codes "pace"))))
    (cases_Bool (bytes_eq text (codes "line")))
