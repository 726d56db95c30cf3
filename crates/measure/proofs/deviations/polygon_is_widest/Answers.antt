use Rattle.measure.proofs.Reached.{polygon_is_widest}
use Rattle.measure.proofs.deviations.polygon_is_widest.Goals as goal

pub returns : goal.returns
returns c = polygon_is_widest
