use Rattle.measure.specs.Numbers.{fraction_is}
use Rattle.measure.proofs.fraction.Fraction.of.Goals as goal

pub returns : goal.returns
returns c = fraction_is _
