-- What cheapest always answers, computed.
use Rattle.std.proofs.Common.{◌≡◌, ℕ, ◌-◌, ◌<◌, ◌≤◌, List, length, take, drop, Some, None, Ok, Err, Option, sym, ap, ◌∙◌, inl, inr, arith}
use Rattle.coding.specs.Tables.{Table}
use Rattle.cost.specs.BitsLaws.{bits_strict}
use Rattle.cost.specs.TwoPartLaws.{two_part_laws}
use Rattle.cost.specs.Bits.{bits_cost, of_count}
use Rattle.cost.specs.Cost.{Laws}
use Rattle.cost.specs.TwoPart.{both}
use Rattle.cost.specs.declared.bits.Bits.{Bits}
use Rattle.cost.specs.declared.two_part.TwoPart.{TwoPart}
use Rattle.measure.specs.Measures.{Strays}
use Rattle.measure.specs.declared.fraction.Fraction.{Fraction}
use Rattle.outline.specs.declared.point.Point.{Point}
use Rattle.outline.specs.declared.refusal.Refusal.TheVariants.{Tolerance, NoUsable}
use Rattle.search.specs.Cheapest.{priced_cost, CheapestRule}
use Rattle.search.specs.Rules.{last_cost}
use Rattle.std.proofs.lemmas.List.{take_at}
use Rattle.weighing.specs.DeviationLaws.{deviation_laws}
use Rattle.weighing.specs.Deviations.{deviation_cost, of_value}
use Rattle.weighing.specs.Weighers.{priced_weight}
use Rattle.weighing.specs.declared.deviation.Deviation.{Deviation}
use Rattle.examples.proofs.Computed.{back, table, cost_is, list_is}
use Rattle.examples.specs.Answers.{Numbers, numbers, Always}

priced_laws : Laws priced_cost
priced_laws = two_part_laws bits_cost deviation_cost bits_strict deviation_laws

-- a cost and a list in numbers
abbrev numbers_of : Option (TwoPart Bits Deviation) → List ℕ → Numbers
numbers_of None vs = Err NoUsable
numbers_of (Some c) vs = Ok (length vs, vs, c.first.count, c.second.value.top, c.second.value.bottom)

abbrev pub cheapest_numbers : Table → Strays → Option Fraction → List Point → Numbers
cheapest_numbers codes strays None ps = Err Tolerance
cheapest_numbers codes strays (Some t) ps =
    let rows = table priced_cost (priced_weight codes strays t ps) (length ps) in
    numbers_of (last_cost (length ps) rows) (back rows (length ps) (length ps - 1))

module _ (codes : Table) (strays : Strays) (ps : List Point) (some : 0 < length ps) (few : length ps ≤ 256) where
  pub cheapest_always : (o : Option Fraction) → Always (length ps) (CheapestRule codes strays o ps) (cheapest_numbers codes strays o ps)
  cheapest_always None rows rows_after list list_after r room kept fits h = ap (numbers list_after) h.0
  cheapest_always (Some t) rows rows_after list list_after (Ok a) room kept fits h =
      let n = length ps in
      let weight = priced_weight codes strays t ps in
      let so = h.2 in
      let vs = so.0 in
      let cost : TwoPart Bits Deviation = both (of_count a.bits) (of_value a.deviation) in
      let front : take a.vertices list_after ≡ vs = ap (take a.vertices) so.4 ∙ take_at vs (drop (length vs) list) a.vertices so.2 in
      let same_cost : Some cost ≡ last_cost n (table priced_cost weight n) = sym so.5 ∙ cost_is priced_cost weight priced_laws n some few rows rows_after kept h.1 in
      let same_list : vs ≡ back (table priced_cost weight n) n (n - 1) = list_is priced_cost weight priced_laws n some few rows rows_after kept h.1 vs so.1 in
      ap (λ m. Ok (m, take a.vertices list_after, a.bits, a.deviation.top, a.deviation.bottom)) (sym so.2)
      ∙ ap (λ us. Ok (length vs, us, a.bits, a.deviation.top, a.deviation.bottom)) front
      ∙ ap (numbers_of (Some cost)) same_list
      ∙ ap (λ o. numbers_of o (back (table priced_cost weight n) n (n - 1))) same_cost
  cheapest_always (Some t) rows rows_after list list_after (Err e) room kept fits (inl h) = absurd (omega (arith, h.1))
  cheapest_always (Some t) rows rows_after list list_after (Err e) room kept fits (inr (inl h)) = absurd (omega (arith, h.2))
  cheapest_always (Some t) rows rows_after list list_after (Err e) room kept fits (inr (inr h)) =
      let n = length ps in
      let weight = priced_weight codes strays t ps in
      ap Err h.0
      ∙ sym (ap (λ o. numbers_of o (back (table priced_cost weight n) n (n - 1))) (sym (cost_is priced_cost weight priced_laws n some few rows rows_after kept h.2) ∙ h.3))
