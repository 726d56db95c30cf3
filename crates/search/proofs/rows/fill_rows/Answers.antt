use Rattle.std.proofs.Common.{◌-◌, ◌<◌, ◌≤◌, length, sym, ◌∙◌, subst, arith}
use Rattle.graph.specs.Rows.{Filled}
use Rattle.outline.proofs.Kept.{rules_of}
use Rattle.outline.specs.Plain.{plain}
use Rattle.search.proofs.Bests.{least_cost}
use Rattle.search.proofs.Lasts.{last_read}
use Rattle.search.specs.Best.{LeastCost}
use Rattle.search.proofs.rows.fill_rows.Goals as goal

pub returns : goal.returns
returns g c =
    let o = c.args.outline.now in
    let n = length (plain o).points in
    let k = g.W.Cost.Cost.cost in
    let weight = g.W.Weigher.weight c.args.weigher.now (plain o).points in
    let rows = c.fill.new.rows in
    let filled = subst (Filled k weight n c.args.rows.now rows) (sym c.in_ok-map_err.ensures.variant) c.fill.ensures in
    let some : 0 < n = omega (arith, (rules_of o).count.0) in
    let long : n ≤ length rows = omega (arith, filled.0, c.fill.auto.rows) in
    let inside : c.len.result - 1 < length rows = omega (arith, c.len.ensures) in
    let last = c.then_some.ensures ∙ last_read n c.len.result c.len.ensures rows c.index-rows-len.result inside c.index-rows-len.is in
    record {
      rule = (filled, last);
      best = subst (LeastCost k weight n) (sym last) (least_cost k weight n rows some long filled.1 (rules_of o).count.1 g.met.W.Cost.Cost.laws);
    }
