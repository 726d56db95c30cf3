use Rattle.std.proofs.Common.{◌∙◌}
use Rattle.exchange.proofs.Measures.{named_in}
use Rattle.exchange.proofs.words.measure_named.Goals as goal

pub returns : goal.returns
returns c = c.ok.ensures.value ∙ named_in c.args.word.now c.parse.result c.parse.ensures.value
