use Rattle.std.proofs.Common.{◌<◌, ◌≤◌, length, arith}
use Rattle.outline.proofs.Kept.{rules_of}
use Rattle.outline.specs.Plain.{plain}
use Rattle.search.proofs.Bests.{read_answered}
use Rattle.search.proofs.Lasts.{room_fits}
use Rattle.search.proofs.least.Goals as goal

pub returns : goal.returns
returns g c =
    let o = c.args.outline.now in
    let n = length (plain o).points in
    let rows = c.fill_rows.new.rows in
    let list = c.args.list.now in
    let fits = room_fits n (length c.args.rows.now) (length list) _ c.in_ok-check_room.ensures in
    let filled = c.in_ok-fill_rows.ensures.rule.0 in
    let some : 0 < n = omega (arith, (rules_of o).count.0) in
    let long : n ≤ length rows = omega (arith, filled.0, c.fill_rows.auto.rows) in
    let so =
    read_answered g.W.Cost.Cost.cost (g.W.Weigher.weight c.args.weigher.now (plain o).points) n rows some long filled.1 (rules_of o).count.1 g.met.W.Cost.Cost.laws
    c.args.rows.now list c.read_list.new.list c.read_list.result fits.1 filled c.read_list.ensures in
    record { rule = rw c.ok_or.ensures.value so.0; best = λ _ _. rw c.ok_or.ensures.value so.1 }
