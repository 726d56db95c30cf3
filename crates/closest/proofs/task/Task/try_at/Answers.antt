use Rattle.outline.proofs.Kept.{rules_of}
use Rattle.outline.specs.Plain.{plain}
use Rattle.closest.proofs.Fitting.{tried}
use Rattle.closest.proofs.task.Task.try_at.Goals as goal

pub returns : goal.returns
returns g c =
    let o = c.args.self.now.outline.now in
    let codes = g.C.Coder.table c.args.self.now.coder.now in
    let h = c.in_ok-reached.ensures in
    record {
      tried = tried codes (g.M.Measure.strays c.args.self.now.measure.now) (plain o).points (rules_of o).count.1 (g.met.C.Coder.codes c.args.self.now.coder.now) c.args.tolerance c.args.self.now.budget c.in_ok-reached.reached c.affordable.result c.affordable.ensures h.best;
      further = h.rule.0.2;
    }
