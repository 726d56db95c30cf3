use Rattle.scripts.proofs.Begins.{read_count}
use Rattle.scripts.proofs.parse.read_places.Goals as goal

pub returns : goal.returns
returns c = read_count c.args.text.now c.in_ok-number.field-0 c.new.result c.new.ensures c.in_ok-number.ensures
