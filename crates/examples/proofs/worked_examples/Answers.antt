use Rattle.std.proofs.Common.{[], ◌∷◌, refl, lit<, lit≤}
use native.Mathlib.Decide.{dec_lt, dec_le}
use Rattle.closest.specs.declared.goal.Goal.TheVariants.{Budget}
use Rattle.coding.specs.Kinds.{kind_table}
use Rattle.coding.specs.declared.kind.Kind.TheVariants.{Flat, Run, Axis}
use Rattle.measure.specs.Distances.{line, pace}
use Rattle.examples.proofs.Closest.{over_always, closest_always}
use Rattle.examples.proofs.Facts.{shown, cheapest_fact, cheapest_shown, chord_writes, legs_fit}
use Rattle.examples.specs.Answers.{traced}
use Rattle.examples.specs.Examples.{corner, straight}
use Rattle.examples.proofs.worked_examples.Goals as goal

pub returns : goal.returns
unfolding dec_lt dec_le
returns c =
    let start = c.outline_by-start.ensures in
    let bent = c.outline_by-corner.ensures in
    record {
      alone = cheapest_shown 0 1 [] Run line _ _ _ start c.show.ensures (lit< tt, lit≤ tt) refl;
      chord = cheapest_shown 2 1 corner Run line _ _ _ bent c.show-2.ensures (lit< tt, lit≤ tt) refl;
      legs = cheapest_shown 1 1 corner Run line _ _ _ bent c.show-3.ensures (lit< tt, lit≤ tt) refl;
      flat = cheapest_shown 1 1 corner Flat line _ _ _ bent c.show-4.ensures (lit< tt, lit≤ tt) refl;
      paced = cheapest_shown 2 1 corner Run pace _ _ _ bent c.show-5.ensures (lit< tt, lit≤ tt) refl;
      over = shown (Budget 5) corner Run line _ _ _ bent c.show-6.ensures (over_always (kind_table Run) line (traced corner) 5 (0 ∷ 4 ∷ []) chord_writes refl);
      near =
          shown (Budget 11) corner Run line _ _ _ bent c.show-7.ensures
          (closest_always (kind_table Run) line (traced corner) 11 (0 ∷ 4 ∷ []) (chord_writes, lit≤ tt) 16 8 refl _ (cheapest_fact 16 8 corner Run line _ (lit< tt, lit≤ tt) refl));
      exact =
          shown (Budget 12) corner Run line _ _ _ bent c.show-8.ensures
          (closest_always (kind_table Run) line (traced corner) 12 (0 ∷ 2 ∷ 4 ∷ []) legs_fit 0 1 refl _ (cheapest_fact 0 1 corner Run line _ (lit< tt, lit≤ tt) refl));
      diagonal = cheapest_shown 0 1 (7 ∷ []) Axis line _ _ _ c.outline_by-diagonal.ensures c.show-9.ensures (lit< tt, lit≤ tt) refl;
      back = cheapest_shown 1 1 (0 ∷ 4 ∷ []) Flat line _ _ _ c.outline_by-back.ensures c.show-10.ensures (lit< tt, lit≤ tt) refl;
      long = cheapest_shown 0 1 straight Run line _ _ _ c.outline_by-straight.ensures c.show-11.ensures (lit< tt, lit≤ tt) refl;
    }
