-- The padding after the codes, and what the body of a record is read as.
use Rattle.std.proofs.Common.{◌≡◌, ℕ, suc, ◌+◌, ◌-◌, ◌<◌, Bool, false, ◌&&◌, nat_eq, leb, List, ◌∷◌, ◌++◌, length, take, drop, replicate, Some, None, Ok, Err, Option, Result, sym, refl, ap, ◌∙◌, subst, subst₂, arith, Decides, MatchResult}
use borrow.Rule.Slice.PartMut.{put_mid, post_of}
use Rattle.std.proofs.lemmas.Bool.{and_from, cond-true, eq-eqb, eqb-true, le-leb}
use Rattle.std.proofs.lemmas.List.{take_all, take_at}
use Rattle.std.proofs.lemmas.Nat.{pow_pos}
use Rattle.std.specs.Option.{option_eq}
use Rattle.outline.specs.declared.point.Point.{Point}
use Rattle.coding.specs.BitLists.{low_bits_value, value_low}
use Rattle.coding.specs.Bits.{front_number, low_bits, value}
use Rattle.coding.specs.Tables.{Table}
use Rattle.records.specs.declared.fault.BitFault.{BitFault}
use Rattle.records.specs.declared.reading.Reading.{Reading}
use Rattle.records.specs.Reading.{Padding, Spelled}
use Rattle.records.specs.Steps.{Traversed, AllSpelled, BodyRead, RecordRead}
use Rattle.records.proofs.Filling.{low_zero}

-- the number that fewer than eight bits spell is 0 exactly where none of them is set
pub zero_number : (bits : List Bool) (n : ℕ) (o : Option ℕ) (b : Bool) → n ≡ length bits → n < 8 → o ≡ front_number n bits → b ≡ option_eq nat_eq o (Some 0) → Decides b (bits ≡ replicate (length bits) false)
zero_number bits n o b long few read test =
    let front : front_number n bits ≡ Some (value (take n bits)) = cond-true (leb n 32 && leb n (length bits)) _ None (and_from (leb n 32) (leb n (length bits)) (le-leb n 32 (omega arith)) (le-leb n (length bits) (omega arith))) in
    let number : o ≡ Some (value bits) = read ∙ front ∙ ap (λ xs. Some (value xs)) (take_all n bits (omega arith)) in
    let is : b ≡ nat_eq (value bits) 0 = test ∙ ap (λ x. option_eq nat_eq x (Some 0)) number in (
      λ yes. sym (low_bits_value bits) ∙ ap (low_bits (length bits)) (eqb-true (value bits) 0 (sym is ∙ yes)) ∙ low_zero (length bits),
      λ none. is ∙ eq-eqb (value bits) 0 (ap value (none ∙ sym (low_zero (length bits))) ∙ value_low (length bits) 0 (pow_pos (length bits))),
    )

pub padded : (r : Result (Unit {0}) BitFault) (x : Unit {0}) (bits row : List Bool) → bits ≡ row → r ≡ Ok x → MatchResult r (λ _. Padding bits) (λ _. Padding bits → ⊥) → Padding row
padded (Ok y) x bits row same e p = subst Padding same p
padded (Err f) x bits row same e p = let z : ◌≡◌ {A = ℕ} 0 1 = cc in absurd (omega arith)

pub all_spelled : (t : Table) (row row' : List Bool) (start : Point) (edges n : ℕ) (places : List Point) (bit : ℕ) → row ≡ row' → n ≡ edges → length places ≡ edges → Traversed t row start n (start ∷ places) (Ok bit) → AllSpelled t row' start edges (start ∷ places) bit
all_spelled t row row' start edges n places bit same all long s =
    record {
      first = refl;
      count = ap suc long;
      spelled = subst₂ (λ r vs. Spelled t r vs bit) same (take_all (n + 1) (start ∷ places) (omega arith)) s.0;
    }

abbrev pub reading : ℕ → ℕ → ℕ → Reading
reading k n m = record { kind = k; bytes = n; vertices = m }

-- the answer of a reader from what its body was read as
pub body_whole : (t : Table) (row : List Bool) (kind size : ℕ) (start : Point) (edges : ℕ) (before after : List Point) (n : ℕ) → BodyRead t row start edges before after (Ok n) → RecordRead t row kind size start edges before after (Ok (reading kind size n))
body_whole t row kind size start edges before after n (vs, bit, s, pad, inside, count, filled) =
    (vs, bit, s, pad, inside, ap (reading kind size) count, filled ∙ ap (λ k. vs ++ drop k before) count)

-- the start and the places after it, at the front of the array
pub start_and_places : (start : Point) (edges : ℕ) (places : List Point) → edges < 256 → length places ≡ edges → take (edges + 1 - 0) (put_mid 1 (edges + 1 - 1) (replicate 256 start) places) ≡ start ∷ places
start_and_places start edges places few long =
    let rest = post_of 1 (edges + 1 - 1) (replicate 256 start) in
    let more : edges + 1 - 0 ≡ suc edges = omega arith in
    ap (λ n. take n (start ∷ (places ++ rest))) more ∙ ap (λ xs. start ∷ xs) (take_at places rest edges long)

-- what a write to the front of a slice leaves behind it
pub post_front : {X : Type 0} (n : ℕ) (xs : List X) → post_of 0 (n - 0) xs ≡ drop n xs
post_front n xs = ap (λ k. drop k xs) (omega arith)
