use Rattle.outline.specs.Plain.{plain}
use Rattle.closest.proofs.Vertices.{cheapest_few, closest_few}
use Rattle.closest.proofs.goal.best_polygon.Goals as goal

pub returns-in-Tolerance-clause-within : goal.returns-in-Tolerance-clause-within
returns-in-Tolerance-clause-within g c =
    cheapest_few (g.C.Coder.table c.args.coder.now) (g.M.Measure.strays c.args.measure.now) (plain c.args.outline.now).points _ _ _ _ _ c.cheapest.result c.cheapest.ensures.rule

pub returns-in-Budget-clause-within : goal.returns-in-Budget-clause-within
returns-in-Budget-clause-within g c =
    closest_few (g.C.Coder.table c.args.coder.now) (g.M.Measure.strays c.args.measure.now) (plain c.args.outline.now).points _ _ _ _ _ c.closest.result c.closest.ensures.rule
