-- Numbers that are no edge get no weight.
use Rattle.std.proofs.Common.{◌≡◌, ℕ, false, ◌&&◌, ltb, List, length, None, Option, ap}
use Rattle.std.proofs.lemmas.Bool.{cond-false}
use Rattle.std.specs.Option.{option_and, option_flatten, option_map, option_zip}
use Rattle.outline.specs.declared.point.Point.{Point}
use Rattle.cost.specs.Prices.{priced}
use Rattle.coding.specs.Tables.{Table}
use Rattle.measure.specs.declared.fraction.Fraction.{Fraction}
use Rattle.measure.specs.Deviation.{edge_deviation, kept_within}
use Rattle.measure.specs.Measures.{Strays}
use Rattle.weighing.specs.Edges.{edge_price}
use Rattle.weighing.specs.Weighers.{priced_weight, straying_weight}
use Rattle.weighing.specs.Weights.{EdgesOnly}

pub no_price : (codes : Table) (ps : List Point) (i j : ℕ) → (ltb i j && ltb j (length ps)) ≡ false → edge_price codes ps i j ≡ None
no_price codes ps i j out = cond-false (ltb i j && ltb j (length ps)) _ None out

pub priced_edges : (codes : Table) (strays : Strays) (t : Fraction) → EdgesOnly (priced_weight codes strays t)
priced_edges codes strays t ps i j out =
    ap (λ (o : Option ℕ). option_zip (option_flatten (option_map priced o)) (kept_within t (edge_deviation strays ps i j))) (no_price codes ps i j out)

pub straying_edges : (codes : Table) (strays : Strays) → EdgesOnly (straying_weight codes strays)
straying_edges codes strays ps i j out =
    ap (λ (o : Option ℕ). option_and o (edge_deviation strays ps i j)) (no_price codes ps i j out)
