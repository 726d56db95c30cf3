use Rattle.measure.proofs.Order.{total_order}
use Rattle.measure.proofs.fraction.Fraction.order_is_total.Goals as goal

pub returns : goal.returns
returns c = total_order
