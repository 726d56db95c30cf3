-- The measures line and pace.
use Rattle.std.specs.Prelude.{ℕ, ◌+◌, ◌-◌, ◌*◌, Bool, cond, ◌&&◌, length, ℤ, pos, ◌-ℤ◌, ◌*ℤ◌, None, Option, ◌==◌, nat_lt, slice_index_or, unsigned_abs}
use Rattle.outline.specs.declared.point.Point.{Point}
pub use Rattle.outline.specs.Between.{cols, rows}
use Rattle.outline.specs.Held.{origin}
use Rattle.measure.specs.declared.fraction.Fraction.{Fraction}
use Rattle.measure.specs.Fractions.{fraction}
use Rattle.measure.specs.Measures.{Strays}

-- The square of a whole number.
abbrev pub square : ℤ → ℕ
square z = unsigned_abs z * unsigned_abs z

-- The squared length of a step by columns and rows.
abbrev pub squared_length : ℤ → ℤ → ℕ
squared_length x y = square x + square y

-- c = (v.col - u.col) × (p.row - u.row) - (v.row - u.row) × (p.col - u.col).
abbrev pub cross : Point → Point → Point → ℤ
cross u v p = cols u v *ℤ rows u p -ℤ rows u v *ℤ cols u p

-- Whether two points coincide.
abbrev pub coincide : Point → Point → Bool
coincide u v = u.col == v.col && u.row == v.row

-- How far p strays from the line through u and v: c² over |v - u|², or |p - u|² over 1 where u and v coincide.
abbrev pub line_from : Point → Point → Point → Option Fraction
line_from u v p =
    cond (coincide u v) (fraction (squared_length (cols u p) (rows u p)) 1)
    (fraction (square (cross u v p)) (squared_length (cols u v) (rows u v)))

-- |n(p - u) - m(v - u)|².
abbrev pub squared_lag : ℕ → ℕ → Point → Point → Point → ℕ
squared_lag n m u v p = squared_length (pos n *ℤ cols u p -ℤ pos m *ℤ cols u v) (pos n *ℤ rows u p -ℤ pos m *ℤ rows u v)

-- How far p strays from the place m of n parts along the way from u to v: |n(p - u) - m(v - u)|² over n².
abbrev pub pace_from : ℕ → ℕ → Point → Point → Point → Option Fraction
pace_from n m u v p = fraction (squared_lag n m u v p) (n * n)

-- Whether i < k < j < n.
abbrev pub between : ℕ → ℕ → ℕ → ℕ → Bool
between n i k j = nat_lt i k && (nat_lt k j && nat_lt j n)

-- The measure line.
abbrev pub line : Strays
line ps i k j = cond (between (length ps) i k j) (line_from (slice_index_or ps i origin) (slice_index_or ps j origin) (slice_index_or ps k origin)) None

-- The measure pace, with n = j - i and m = k - i.
abbrev pub pace : Strays
pace ps i k j = cond (between (length ps) i k j) (pace_from (j - i) (k - i) (slice_index_or ps i origin) (slice_index_or ps j origin) (slice_index_or ps k origin)) None
