-- The worked examples as facts, from what is computed and from what is shown.
use Rattle.std.proofs.Common.{◌≡◌, ℕ, ◌<◌, ◌≤◌, List, [], ◌∷◌, length, refl, ◌∙◌, subst, arith}
use Rattle.closest.specs.Closest.{Writes, Fits}
use Rattle.closest.specs.Goals.{RuleFor}
use Rattle.closest.specs.declared.goal.Goal.{Goal}
use Rattle.closest.specs.declared.goal.Goal.TheVariants.{Tolerance}
use Rattle.coding.specs.Kinds.{kind_table}
use Rattle.coding.specs.declared.kind.Kind.{Kind}
use Rattle.coding.specs.declared.kind.Kind.TheVariants.{Run}
use Rattle.graph.specs.Paths.Rising.{alone, higher}
use Rattle.measure.specs.Fractions.{fraction}
use Rattle.measure.specs.Measures.{Strays}
use Rattle.outline.specs.declared.point.Point.{Point}
use Rattle.search.proofs.Polygons.{rising_polygon}
use Rattle.examples.proofs.Cheapest.{cheapest_numbers, cheapest_always}
use Rattle.examples.specs.Answers.{Numbers, traced, Fact, Answers}
use Rattle.examples.specs.Examples.{corner}
use Rattle.examples.specs.Steps.{Handed}
use Rattle.examples.specs.declared.asking.Shown.{Shown}

pub shown : (aim : Goal) (directions : List ℕ) (kind : Kind) (strays : Strays) (answer : Numbers) (ps : List Point) (s : Shown) → ps ≡ traced directions
    → Handed (length ps) (RuleFor aim (kind_table kind) strays ps) s → Fact aim directions kind strays answer → Answers aim directions kind strays answer s
shown aim directions kind strays answer ps s is handed fact =
    (fact, subst (λ qs. Handed (length qs) (RuleFor aim (kind_table kind) strays qs) s) is handed answer fact)

module _ (top bottom : ℕ) (directions : List ℕ) (kind : Kind) (strays : Strays) (answer : Numbers) where
  pub cheapest_fact : (0 < length (traced directions)) × (length (traced directions) ≤ 256) → cheapest_numbers (kind_table kind) strays (fraction top bottom) (traced directions) ≡ answer
      → Fact (Tolerance top bottom) directions kind strays answer
  cheapest_fact count is rows rows_after list list_after r room kept fits h =
      cheapest_always (kind_table kind) strays (traced directions) count.0 count.1 (fraction top bottom) rows rows_after list list_after r room kept fits h ∙ is

  pub cheapest_shown : (ps : List Point) (s : Shown) → ps ≡ traced directions → Handed (length ps) (RuleFor (Tolerance top bottom) (kind_table kind) strays ps) s
      → (0 < length (traced directions)) × (length (traced directions) ≤ 256) → cheapest_numbers (kind_table kind) strays (fraction top bottom) (traced directions) ≡ answer
      → Answers (Tolerance top bottom) directions kind strays answer s
  cheapest_shown ps s same handed count is = shown (Tolerance top bottom) directions kind strays answer ps s same handed (cheapest_fact count is)

pub chord_writes : Writes (kind_table Run) (traced corner) (0 ∷ 4 ∷ [])
chord_writes = (rising_polygon (higher alone (omega arith)), (refl, tt))

pub legs_fit : Fits (kind_table Run) (traced corner) 12 (0 ∷ 2 ∷ 4 ∷ [])
legs_fit = ((rising_polygon (higher (higher alone (omega arith)) (omega arith)), (refl, (refl, tt))), omega arith)
