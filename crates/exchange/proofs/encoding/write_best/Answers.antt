use Rattle.std.proofs.Common.{take, Ok, ap, subst₂, arith}
use Rattle.coding.specs.Kinds.{kind_number, kind_table}
use Rattle.measure.specs.Choice.{chosen_strays}
use Rattle.outline.proofs.Kept.{rules_of}
use Rattle.outline.specs.Plain.{plain}
use Rattle.records.specs.Numbered.{Recorded}
use Rattle.exchange.proofs.Written.{found_written}
use Rattle.exchange.proofs.encoding.write_best.Goals as goal

pub returns : goal.returns
returns c =
    let o = c.args.outline.now in
    let k = c.args.kind in
    let ps = (plain o).points in
    let a = c.in_ok-found.found in
    let list = c.best_polygon.new.list in
    let before = c.args.buffer.now in
    let after = c.write_kind.new.buffer in
    let front = ap (λ m. take m list) (omega arith) in
    let written = subst₂ (λ n vs. Recorded (kind_table k) n ps vs before after c.write_kind.result) c.from.ensures front c.write_kind.ensures.recorded in
    let few = (rules_of o).count.1 in
    let best = c.in_ok-found.ensures.best few few in
    (list, Ok a, best, found_written k (kind_number k) (chosen_strays c.args.measure) c.args.goal ps few list before after a c.write_kind.result best written)
