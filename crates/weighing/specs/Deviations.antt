-- Deviations as costs.
use Rattle.cost.specs.Cost.{CostOf}
use Rattle.measure.specs.declared.fraction.Fraction.{Fraction}
use Rattle.measure.specs.Fractions.{zero, above, wider}
use Rattle.weighing.specs.declared.deviation.Deviation.{Deviation}

-- A deviation of this value.
abbrev pub of_value : Fraction → Deviation
of_value f = record { value = f }

-- Deviations start at 0/1, join by keeping the old one unless the new one is greater, and are above where they are greater.
abbrev pub deviation_cost : CostOf Deviation Fraction
deviation_cost = record {
  start = of_value zero;
  join = λ d f. of_value (wider d.value f);
  above = λ a b. above a.value b.value;
}
