-- The bytes of a record.
use Rattle.std.specs.Prelude.{ℕ, zero, suc, ◌+◌, ◌/◌, ◌%◌, Bool, false, List, [], ◌∷◌, ◌++◌, length, take, drop, replicate, Some, None, Option}
use Rattle.std.specs.Option.{option_map}
use Rattle.outline.specs.declared.point.Point.{Point}
pub use Rattle.outline.specs.Between.{cols, rows}
use Rattle.coding.specs.Bits.{value}
use Rattle.coding.specs.Tables.{Table}

-- A number in two bytes, the low byte first.
abbrev pub word : ℕ → List ℕ
word n = n % 256 ∷ n / 256 ∷ []

-- A number of bytes from the front of a row of bits, high bits first, zero bits past its end.
abbrev pub packed : ℕ → List Bool → List ℕ
packed zero bits = []
packed (suc n) bits = value (take 8 (bits ++ replicate 8 false)) ∷ packed n (drop 8 bits)

-- The whole bytes that hold a row of bits.
abbrev pub bytes_of : List Bool → List ℕ
bytes_of bits = packed ((length bits + 7) / 8) bits

-- One code before others, where there are all.
abbrev pub joined_codes : Option (List Bool) → Option (List Bool) → Option (List Bool)
joined_codes (Some code) rest = option_map (λ codes. code ++ codes) rest
joined_codes None rest = None

-- The codes of the displacements from a vertex on, one after the other, where each has one.
abbrev pub codes_from : Table → Point → List Point → Option (List Bool)
codes_from t u [] = Some []
codes_from t u (v ∷ vs) = joined_codes (t (cols u v) (rows u v)) (codes_from t v vs)

-- The codes of the edges of a list of vertices.
abbrev pub codes_of : Table → List Point → Option (List Bool)
codes_of t [] = None
codes_of t (u ∷ vs) = codes_from t u vs

-- The bytes of a record with its codes: the bytes after the first two, the kind, the start, the number of edges, the codes.
abbrev pub framed : ℕ → Point → ℕ → List Bool → List ℕ
framed kind start edges codes =
    word (7 + length (bytes_of codes)) ++ (word kind ++ (word start.col ++ (word start.row ++ (edges ∷ bytes_of codes))))

-- The record of a kind and a list of vertices, by the table of codes of the kind.
abbrev pub record_of : Table → ℕ → List Point → Option (List ℕ)
record_of t kind [] = None
record_of t kind (u ∷ vs) = option_map (framed kind u (length vs)) (codes_from t u vs)
