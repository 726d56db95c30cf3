-- The weights that the priced and the straying weigher give.
use Rattle.std.specs.Option.{option_and, option_flatten, option_map, option_zip}
use Rattle.cost.specs.Prices.{priced}
use Rattle.cost.specs.declared.price.Price.{Price}
use Rattle.coding.specs.Tables.{Table}
use Rattle.measure.specs.declared.fraction.Fraction.{Fraction}
use Rattle.measure.specs.Deviation.{edge_deviation, kept_within}
use Rattle.measure.specs.Measures.{Strays}
use Rattle.weighing.specs.Edges.{edge_price}
use Rattle.weighing.specs.Weights.{Weighing}

-- The price and the deviation of an edge that has a code and is within a tolerance.
abbrev pub priced_weight : Table → Strays → Fraction → Weighing (Price × Fraction)
priced_weight codes strays t ps i j = option_zip (option_flatten (option_map priced (edge_price codes ps i j))) (kept_within t (edge_deviation strays ps i j))

-- The deviation of an edge that has a code.
abbrev pub straying_weight : Table → Strays → Weighing Fraction
straying_weight codes strays ps i j = option_and (edge_price codes ps i j) (edge_deviation strays ps i j)
