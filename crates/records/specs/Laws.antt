-- What holds of all records.
use Rattle.std.specs.Prelude.{◌≡◌, ℕ, Bool, List, length, take, Some}
use Rattle.outline.specs.declared.point.Point.{Point}
use Rattle.outline.specs.Polygon.{Polygon}
use Rattle.coding.specs.Tables.{Table, price_of}
use Rattle.weighing.specs.Edges.{edge_price, polygon_bits as edges_bits}
use Rattle.records.specs.Bytes.{codes_of, record_of}
use Rattle.records.specs.Reading.{Kinds, Accepted}
use Rattle.records.specs.Writing.{vertices, polygon_bits}

-- Bytes that are accepted with the same kind and vertices begin with the same bytes.
abbrev pub OneRecord : Kinds → Type 0
OneRecord known =
    (bs bs' : List ℕ) (kind : ℕ) (vs : List Point) (n m : ℕ) → Accepted known bs kind vs n → Accepted known bs' kind vs m → (n ≡ m) × (take n bs ≡ take m bs')

-- A record that is the beginning of another of its kind has the same vertices.
abbrev pub RecordsApart : Table → Type 0
RecordsApart t =
    (kind : ℕ) (vs ws : List Point) (bytes bytes' : List ℕ) → record_of t kind vs ≡ Some bytes → record_of t kind ws ≡ Some bytes' → take (length bytes) bytes' ≡ bytes → vs ≡ ws

-- The prices of the edges added up are the number of bits of the codes.
abbrev pub BitsAreCodes : Table → Type 0
BitsAreCodes t = (vs : List Point) → polygon_bits t vs ≡ price_of (codes_of t vs)

-- A record that is the beginning of another has the same kind and vertices.
abbrev pub KindsApart : Kinds → Type 0
KindsApart known =
    (kind kind' : ℕ) (t t' : Table) (vs ws : List Point) (bytes bytes' : List ℕ) → known kind ≡ Some t → known kind' ≡ Some t'
    → record_of t kind vs ≡ Some bytes → record_of t' kind' ws ≡ Some bytes' → take (length bytes) bytes' ≡ bytes → (kind ≡ kind') × (vs ≡ ws)

-- The bits of a polygon whose edges have codes are the bits of its codes.
abbrev pub EdgeBitsAreCodes : Table → Type 0
EdgeBitsAreCodes t =
    (ps : List Point) (list : List ℕ) (codes : List Bool) → Polygon (length ps) list → codes_of t (vertices ps list) ≡ Some codes → edges_bits (edge_price t ps) list ≡ length codes
