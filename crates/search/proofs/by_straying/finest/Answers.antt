use Rattle.std.proofs.Common.{Ok, ap}
use Rattle.outline.specs.Plain.{plain}
use Rattle.search.proofs.Named.{finest_rule, finest_best}
use Rattle.search.proofs.by_straying.finest.Goals as goal

pub returns : goal.returns
returns g c =
    let ps = (plain c.args.outline.now).points in
    let p = c.new.ensures in
    let codes = g.C.Coder.table c.args.coder.now in
    let strays = g.M.Measure.strays c.args.measure.now in
    let same_codes = ap g.C.Coder.table p.0 in
    let same_strays = ap g.M.Measure.strays p.1 in
    let found = c.in_ok-found.found in
    let answer = Ok (record { vertices = found.vertices; deviation = found.cost.value }) in
    let h = c.in_ok-found.ensures in
    record {
      rule = finest_rule codes _ strays _ ps same_codes same_strays c.args.rows.now c.least.new.rows c.args.list.now c.least.new.list answer h.rule;
      best = λ m n. finest_best codes _ strays _ ps same_codes same_strays c.least.new.list answer (h.best m n);
    }
