use Rattle.std.proofs.Common.{◌∙◌}
use Rattle.coding.specs.Runs.{class_answer}
use Rattle.coding.proofs.run.class.Goals as goal

pub returns : goal.returns
returns c = c.then_some.ensures ∙ class_answer c.args.length c.requires
