use Rattle.std.proofs.Common.{◌≤◌, drop, length}
use Rattle.records.specs.Bytes.{codes_of}
use Rattle.records.specs.Corners.{corner_points}
use Rattle.records.specs.Reading.{Inside}
use Rattle.records.specs.Tails.{put_bits}
use Rattle.records.specs.Writing.{vertices}
use Rattle.records.proofs.Coming.{Coming}
use Rattle.records.proofs.corners.Corners.write_codes.Given as goal

abbrev pub invariant-loop-number : goal.invariant-loop-number
invariant-loop-number g l =
    let t = g.C.Coder.table l.coder in
    Inside l.from
    × (l.tail.at ≤ length l.body)
    × Coming t l.from (vertices l.self.points.now (drop l.number-index l.numbers)) (codes_of t (corner_points l.self)) (put_bits l.body l.tail)
