-- Parts of lists, and points from their parts.
use Rattle.std.proofs.Common.{◌≡◌, ℕ, ◌-◌, List, length, take, drop, ℤ, ◌∙◌, ap₂, arith, w16, SFits, to_z, of_z, rules}
use Rattle.std.proofs.lemmas.List.{take_rest}
use Rattle.std.proofs.lemmas.Int.{to_z-of_z}
use Rattle.outline.specs.declared.point.Point.{Point}
use Rattle.records.specs.Bytes.{cols, rows}
use Rattle.records.specs.Reading.{Inside}

abbrev point : ℕ → ℕ → Point
point c r = record { col = c; row = r }

pub same_point : (a b c d : ℕ) → a ≡ b → c ≡ d → point a c ≡ point b d
same_point a b c d e f = ap₂ point e f

pub part_of_rest : {X : Type 0} (xs : List X) (k n m : ℕ) → n ≡ m → take (n - 7 - 0) (take (length xs - k) (drop k xs)) ≡ take (m - 7) (drop k xs)
part_of_rest xs k n m e = ap₂ (λ a b. take a b) (omega arith) (take_rest xs k)

-- what a call said of the displacement between two points inside
pub said_of : {X : Type 0} (f : ℤ → ℤ → X) (x : X) (dx dy : ℤ) (u v : Point) → Inside u → Inside v → dx ≡ cols u v → dy ≡ rows u v → x ≡ f (to_z w16 (of_z w16 dx)) (to_z w16 (of_z w16 dy)) → x ≡ f (cols u v) (rows u v)
said_of f x dx dy u v from to right below h =
    let fx : SFits w16 (cols u v) = search rules in
    let fy : SFits w16 (rows u v) = search rules in
    h ∙ ap₂ (λ a b. f (to_z w16 (of_z w16 a)) (to_z w16 (of_z w16 b))) right below ∙ ap₂ f (to_z-of_z w16 (cols u v) fx) (to_z-of_z w16 (rows u v) fy)
