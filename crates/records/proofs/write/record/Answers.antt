use Rattle.std.proofs.Common.{◌≡◌, Some, rules}
use Rattle.outline.specs.Held.{held}
use Rattle.coding.specs.Kinds.{kind_table}
use Rattle.records.specs.Reading.{all_kinds}
use Rattle.records.specs.Writing.{vertices}
use Rattle.records.proofs.Known.{kind_known, kind_unknown}
use Rattle.records.proofs.Recording.{records_none, records_by, back_more}
use Rattle.records.proofs.write.record.Goals as goal

pub returns-in_err-coder : goal.returns-in_err-coder
returns-in_err-coder c =
    let none = c.in_err-coder.ensures in
    record { right = records_none (all_kinds c.args.kind) c.args.kind (held c.args.outline.now.points) c.args.list.now c.args.buffer.now c.from_residual.result (kind_unknown c.args.kind none.1) (search rules); back = search rules }

pub returns : goal.returns
returns c =
    let k = c.in_ok-coder.coder in
    let t = kind_table k in
    let n = c.args.kind in
    let ps = held c.args.outline.now.points in
    let known : all_kinds n ≡ Some t = kind_known k n c.in_ok-coder.ensures in
    let w = c.write_kind.ensures in
    record {
      right = records_by (all_kinds n) t n ps c.args.list.now c.args.buffer.now _ c.write_kind.result known w.recorded;
      back = back_more all_kinds n t known (vertices ps c.args.list.now) _ c.write_kind.result w.back;
    }
