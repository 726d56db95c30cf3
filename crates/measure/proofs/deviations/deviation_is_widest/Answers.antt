use Rattle.measure.proofs.Reached.{deviation_is_widest}
use Rattle.measure.proofs.deviations.deviation_is_widest.Goals as goal

pub returns : goal.returns
returns c = deviation_is_widest
