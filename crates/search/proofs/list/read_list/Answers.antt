use Rattle.std.proofs.Common.{length, sym, subst, arith}
use Rattle.graph.proofs.Chains.{read_back_inside}
use Rattle.outline.proofs.Kept.{rules_of}
use Rattle.outline.specs.Plain.{plain}
use Rattle.search.proofs.Lasts.{unlisted, listed}
use Rattle.search.specs.Rules.{ReadOut}
use Rattle.search.proofs.list.read_list.Goals as goal

pub returns-in_err-vertices : goal.returns-in_err-vertices
returns-in_err-vertices g c =
    let o = c.args.outline.now in
    let n = length (plain o).points in
    let rows = c.args.rows.now in
    let before = c.args.list.now in
    let after = c.read_back.new.list in
    subst (ReadOut n rows before after) (sym c.from_residual.ensures)
    (unlisted n c.len-last.result c.len-last.ensures rows before after (rules_of o).count.1 c.in_err-vertices.ensures)

pub offset_bounds-rows-last : goal.offset_bounds-rows-last
offset_bounds-rows-last g c = omega (arith, read_back_inside c.in_ok-vertices.ensures.1)

pub bounds-rows-last : goal.bounds-rows-last
bounds-rows-last g c = omega (arith, read_back_inside c.in_ok-vertices.ensures.1)

pub returns : goal.returns
returns g c =
    let n = length (plain c.args.outline.now).points in
    listed n c.len-last.result c.len-last.ensures c.args.rows.now c.args.list.now c.read_back.new.list
    c.in_ok-vertices.vertices c.index-rows-last.result c.index-rows-last.is c.in_ok-vertices.ensures
