use Rattle.std.proofs.Common.{Ok, Err, sym, ap, ◌∙◌, subst}
use Rattle.measure.specs.Fractions.{fraction}
use Rattle.outline.proofs.Kept.{rules_of}
use Rattle.outline.specs.Plain.{plain}
use Rattle.search.specs.Cheapest.{CheapestRule, CheapestBest}
use Rattle.search.proofs.Named.{cheapest_rule, cheapest_best}
use Rattle.std.proofs.lemmas.Result.{err_from_is_err_and}
use Rattle.search.proofs.by_price.cheapest.Goals as goal

pub returns-in_err-found : goal.returns-in_err-found
returns-in_err-found g c =
    let ps = (plain c.args.outline.now).points in
    let p = c.in_ok-weigher.ensures in
    let codes = g.C.Coder.table c.args.coder.now in
    let strays = g.M.Measure.strays c.args.measure.now in
    let same_codes = ap g.C.Coder.table p.0 in
    let same_strays = ap g.M.Measure.strays p.1 in
    let o = fraction c.args.top c.args.bottom in
    let t = c.in_ok-weigher.weigher.tolerance in
    let few = (rules_of c.args.outline.now).count.1 in
    let h = c.in_err-found.ensures in
    let e = c.in_err-found.field-0.0 in
    let q = err_from_is_err_and c.from_residual-in_err-found.result c.from_residual-in_err-found.ensures.1 in
    let is = sym (q.1 ∙ ap Err q.2) in
    record {
      rule =
          subst (CheapestRule codes strays o ps c.args.rows.now c.least.new.rows c.args.list.now c.least.new.list) is
          (cheapest_rule codes _ strays _ ps same_codes same_strays t o p.2 c.args.rows.now c.least.new.rows c.args.list.now c.least.new.list (Err e) h.rule);
      best = λ m n.
          subst (CheapestBest codes strays o ps c.least.new.list) is
          (cheapest_best codes _ strays _ ps same_codes same_strays t o p.2 c.least.new.list (Err e) few (h.best m n));
    }

pub returns : goal.returns
returns g c =
    let ps = (plain c.args.outline.now).points in
    let p = c.in_ok-weigher.ensures in
    let codes = g.C.Coder.table c.args.coder.now in
    let strays = g.M.Measure.strays c.args.measure.now in
    let same_codes = ap g.C.Coder.table p.0 in
    let same_strays = ap g.M.Measure.strays p.1 in
    let found = c.in_ok-found.found in
    let answer = Ok (record { vertices = found.vertices; bits = found.cost.first.count; deviation = found.cost.second.value }) in
    let t = c.in_ok-weigher.weigher.tolerance in
    let few = (rules_of c.args.outline.now).count.1 in
    let h = c.in_ok-found.ensures in
    record {
      rule = cheapest_rule codes _ strays _ ps same_codes same_strays t _ p.2 c.args.rows.now c.least.new.rows c.args.list.now c.least.new.list answer h.rule;
      best = λ m n. cheapest_best codes _ strays _ ps same_codes same_strays t _ p.2 c.least.new.list answer few (h.best m n);
    }
