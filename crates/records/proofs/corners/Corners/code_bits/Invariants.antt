use Rattle.std.proofs.Common.{◌≡◌, ◌+◌, ◌*◌, ◌≤◌, drop}
use Rattle.std.specs.Option.{option_map}
use Rattle.records.specs.Corners.{corner_points}
use Rattle.records.specs.Reading.{Inside}
use Rattle.records.specs.Writing.{vertices, bits_from, polygon_bits}
use Rattle.records.proofs.corners.Corners.code_bits.Given as goal

abbrev pub invariant-loop-number : goal.invariant-loop-number
invariant-loop-number g l =
    let t = g.C.Coder.table l.coder in
    Inside l.from
    × (l.bits ≤ 32 * l.number-index)
    × (option_map (λ n. l.bits + n) (bits_from t l.from (vertices l.self.points.now (drop l.number-index l.numbers))) ≡ polygon_bits t (corner_points l.self))
