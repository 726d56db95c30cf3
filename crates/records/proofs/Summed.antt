-- The prices of the edges added up along the vertices are the bits of the codes, and the bits that the edges of the polygon weigh.
use Rattle.std.proofs.Common.{◌≡◌, ℕ, Bool, List, [], ◌∷◌, length, Some, None, Option, Result, sym, refl, ap, ◌∙◌, ap₂, length-append}
use Rattle.outline.specs.declared.point.Point.{Point}
use Rattle.outline.specs.Polygon.{Polygon}
use Rattle.coding.specs.Tables.{Table, price_of}
use Rattle.weighing.specs.Edges.{edge_price, polygon_bits as edges_bits}
use Rattle.outline.specs.declared.refusal.Refusal.{Refusal}
use Rattle.records.specs.declared.written.Written.{Written}
use Rattle.records.specs.Bytes.{cols, rows, joined_codes, codes_from, codes_of, record_of}
use Rattle.records.specs.Numbered.{code_answer, Recorded}
use Rattle.records.specs.Writing.{vertices, added, bits_from, polygon_bits, answer, Writes}
use Rattle.records.proofs.Prices.{edge_bits_are_codes}
use Rattle.records.proofs.Recording.{no_record, record_is}

-- the bits of a polygon are the bits of its codes
joined_length : (a b : Option (List Bool)) → added (price_of a) (price_of b) ≡ price_of (joined_codes a b)
joined_length (Some a) (Some b) = ap Some (sym (length-append a b))
joined_length (Some a) None = refl
joined_length None b = refl

from_bits : (t : Table) (u : Point) (vs : List Point) → bits_from t u vs ≡ price_of (codes_from t u vs)
from_bits t u [] = refl
from_bits t u (v ∷ vs) = ap (added (price_of (t (cols u v) (rows u v)))) (from_bits t v vs) ∙ joined_length (t (cols u v) (rows u v)) (codes_from t v vs)

pub bits_are_codes : (t : Table) (vs : List Point) → polygon_bits t vs ≡ price_of (codes_of t vs)
bits_are_codes t [] = refl
bits_are_codes t (u ∷ vs) = from_bits t u vs

-- both ways of counting the bits give one answer
module _ (t : Table) (kind : ℕ) (ps : List Point) (list : List ℕ) (p : Polygon (length ps) list) where
  same_answer : (room : ℕ) (o : Option (List Bool)) → codes_of t (vertices ps list) ≡ o → code_answer (record_of t kind (vertices ps list)) (edges_bits (edge_price t ps) list) room ≡ answer (record_of t kind (vertices ps list)) (polygon_bits t (vertices ps list)) room
  same_answer room None e =
      let missing = no_record t kind (vertices ps list) e in
      ap (λ r. code_answer r (edges_bits (edge_price t ps) list) room) missing ∙ sym (ap (λ r. answer r (polygon_bits t (vertices ps list)) room) missing)
  same_answer room (Some codes) e =
      let written = record_is t kind (vertices ps list) codes e in
      let edges = edge_bits_are_codes t ps list codes p e in
      let sums : polygon_bits t (vertices ps list) ≡ Some (length codes) = bits_are_codes t (vertices ps list) ∙ ap price_of e in
      ap₂ (λ r n. code_answer r n room) written edges ∙ sym (ap₂ (λ r n. answer r n room) written sums)

  pub summed : {before after : List ℕ} {r : Result Written Refusal} → Recorded t kind ps list before after r → Writes t kind ps list before after r
  summed {before} w = record { refused = w.refused; answered = λ q. w.answered q ∙ same_answer (length before) (codes_of t (vertices ps list)) refl; buffer = w.buffer }
