-- The number of each refusal.
use Rattle.std.specs.Prelude.{ℕ}
use Rattle.outline.specs.declared.refusal.Refusal.{Refusal}
use Rattle.outline.specs.declared.refusal.Refusal.TheVariants.{FrameSize, StartOutside, Direction, Tolerance, NoPolygon, Short, Kind, PointOutside, NoCode, Trailing, LeavesFrame, Full, OnlyStart, ListShort, RowsShort, BufferShort, NoUsable, OverBudget, EdgeNoCode}

-- The number by which a refusal is told: 1 to 10 for the input, 20 to 28 for the state.
abbrev pub number : Refusal → ℕ
number FrameSize = 1
number StartOutside = 2
number Direction = 3
number Tolerance = 4
number NoPolygon = 5
number Short = 6
number Kind = 7
number PointOutside = 8
number NoCode = 9
number Trailing = 10
number LeavesFrame = 20
number Full = 21
number OnlyStart = 22
number ListShort = 23
number RowsShort = 24
number BufferShort = 25
number NoUsable = 26
number OverBudget = 27
number EdgeNoCode = 28
