use Rattle.std.proofs.Common.{refl}
use Rattle.cost.proofs.PriceLaws.{priced_some}
use Rattle.cost.proofs.price.Price.new.Goals as goal

pub returns : goal.returns
returns c = priced_some c.args.bits _ refl
