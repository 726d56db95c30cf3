use Rattle.std.specs.Prelude.{not, ◌&&◌, ◌||◌}
use Rattle.cost.specs.Cost.{CostOf}
use Rattle.cost.specs.declared.two_part.TwoPart.{TwoPart}

-- The two parts, side by side.
abbrev pub both : {A B : Type 0} → A → B → TwoPart A B
both a b = record { first = a; second = b }

-- Each part joins the weight of its own, and the second decides only where neither first is below the other.
abbrev pub two_part : {A V B W : Type 0} → CostOf A V → CostOf B W → CostOf (TwoPart A B) (V × W)
two_part s k = record {
  start = both s.start k.start;
  join = λ c w. both (s.join c.first w.0) (k.join c.second w.1);
  above = λ c d. s.above c.first d.first || (not (s.above d.first c.first) && k.above c.second d.second);
}
