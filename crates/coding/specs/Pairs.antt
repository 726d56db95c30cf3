-- Pairs of tables.
use Rattle.std.specs.Prelude.{◌≡◌, ℕ, ◌+◌, ◌*◌, ◌%◌, ◌^◌, ◌<◌, ◌≤◌, Bool, true, false, cond, List, [], ◌∷◌, length, take, drop, ℤ, Some, None, Option, FitsSigned, ◌≢◌, nat_le, refl}
use Rattle.std.specs.Bool.{beq, then_some}
use Rattle.std.proofs.Common.{⊎_elim, sym, ap, ap₂, ◌∙◌, subst, subst₂, arith}
use Rattle.std.proofs.Math.Nat.{pow-le-pow_right}
use Rattle.std.specs.Int.{w16}
use mir.Val.{bool_byte, to_z, of_z}
use Rattle.std.proofs.lemmas.Nat.{one_shl}
use Rattle.std.proofs.lemmas.List.{take-take}
use Rattle.std.proofs.lemmas.Int.{to_z-of_z}
use Rattle.std.proofs.lemmas.Bool.{true≢false, false≢true, cases_Bool, cases_lt, cond-true, cond-false, leb-true}
use Rattle.std.specs.List.{slice_get}
use Rattle.coding.specs.Bits.{value, Begins}
use Rattle.coding.specs.Kinds.{roomy, either, pair, side, marker}
use Rattle.coding.specs.Tables.{Table, Codes, Reads, spelled}
use Rattle.coding.specs.BitLists.{value_below}
use Rattle.coding.specs.Fields.{none-some, cond_some, begins_fits}

-- codes that begin one row are codes of one displacement
pub one_begins : (t : Table) → Codes t → (x y x' y' : ℤ) (code code' row : List Bool) → t x y ≡ Some code → t x' y' ≡ Some code' → Begins code row → Begins code' row → (x ≡ x') × (y ≡ y')
one_begins t codes x y x' y' code code' row e e' b b' =
    ⊎_elim
    (λ less. let same = codes.apart x' y' x y code' code e' e (shorter code' code b' b (omega arith)) in (sym same.0, sym same.1))
    (λ more. codes.apart x y x' y' code code' e e' (shorter code code' b b' more))
    (cases_lt (length code') (length code))
  where
    shorter : (a c : List Bool) → Begins a row → Begins c row → length a ≤ length c → Begins a c
    shorter a c p q few = ap (take (length a)) (sym q) ∙ take-take (length a) (length c) row few ∙ p

roomy_is : (o : Option (List Bool)) (code : List Bool) → roomy o ≡ Some code → (o ≡ Some code) × (length code ≤ 31)
roomy_is None code e = none-some code e
roomy_is (Some c) code e =
    let parts = cond_some (nat_le (length c) 31) c code e in
    (ap Some parts.1, omega (arith, ap length parts.1, leb-true (length c) 31 parts.0))

abbrev Chosen : Option (List Bool) → Option (List Bool) → List Bool → Bool → Type 0
Chosen a b bits true = b ≡ Some bits
Chosen a b bits false = a ≡ Some bits

either_is : (a b : Option (List Bool)) (code : List Bool) → either a b ≡ Some code → (m : Bool) × (bits : List Bool) × (m ∷ bits ≡ code) × Chosen a b bits m
either_is None None code e = none-some code e
either_is None (Some b) code e = (true, b, (cc), refl)
either_is (Some a) None code e = (false, a, (cc), refl)
either_is (Some a) (Some b) code e =
    ⊎_elim
    (λ t. let s : Some (false ∷ a) ≡ Some code = sym (cond-true (nat_le (length a) (length b)) _ _ t) ∙ e in (false, a, (cc), refl))
    (λ f. let s : Some (true ∷ b) ≡ Some code = sym (cond-false (nat_le (length a) (length b)) _ _ f) ∙ e in (true, b, (cc), refl))
    (cases_Bool (nat_le (length a) (length b)))

module _ (t u : Table) where
  -- a pair's code is a bit and a code of that side
  pub pair_is : (x y : ℤ) (code : List Bool) → pair t u x y ≡ Some code → (m : Bool) × (bits : List Bool) × (m ∷ bits ≡ code) × (side m t u x y ≡ Some bits) × (length bits ≤ 31)
  pair_is x y code e =
      let is = either_is (roomy (t x y)) (roomy (u x y)) code e in
      let held = go is.0 is.1 is.3 in
      (is.0, is.1, is.2, held.0, held.1)
    where
      go : (m : Bool) (bits : List Bool) → Chosen (roomy (t x y)) (roomy (u x y)) bits m → (side m t u x y ≡ Some bits) × (length bits ≤ 31)
      go true bits h = roomy_is (u x y) bits h
      go false bits h = roomy_is (t x y) bits h

begins_cons : (m n : Bool) (bits row : List Bool) → Begins (m ∷ bits) (n ∷ row) → (m ≡ n) × Begins bits row
begins_cons m n bits row b = ((cc), (cc))

pub pair_codes : (t u : Table) → Codes t → Codes u → Codes (pair t u)
pair_codes t u first second =
    record {
      sized = λ x y code e.
          let is = pair_is t u x y code e in
          (omega (arith, ap length is.2), omega (arith, ap length is.2, is.4));
      displaced = λ x y far. ap₂ (λ a b. either (roomy a) (roomy b)) (first.displaced x y far) (second.displaced x y far);
      apart = λ x y x' y' code code' e e' b.
          let is = pair_is t u x y code e in
          let is' = pair_is t u x' y' code' e' in
          let parts = begins_cons is.0 is'.0 is.1 is'.1 (subst₂ Begins (sym is.2) (sym is'.2) b) in
          go is'.0 x y x' y' is.1 is'.1 (subst (λ m. side m t u x y ≡ Some is.1) parts.0 is.3) is'.3 parts.1;
    }
  where
    go : (m : Bool) (x y x' y' : ℤ) (bits bits' : List Bool) → side m t u x y ≡ Some bits → side m t u x' y' ≡ Some bits' → Begins bits bits' → (x ≡ x') × (y ≡ y')
    go true x y x' y' bits bits' e e' b = second.apart x y x' y' bits bits' e e' b
    go false x y x' y' bits bits' e e' b = first.apart x y x' y' bits bits' e e' b

-- what the marker of a pair's code says of the code
module _ (t u : Table) (x y : ℤ) where
  pub marker_is : (m : Bool) (n : ℕ) → Some (m, n) ≡ marker (pair t u x y) → (bits : List Bool) × (pair t u x y ≡ Some (m ∷ bits)) × (side m t u x y ≡ Some bits) × (n ≡ length bits) × (n ≤ 31)
  marker_is m n e = go (pair t u x y) refl e
    where
      go : (o : Option (List Bool)) → pair t u x y ≡ o → Some (m, n) ≡ marker o → (bits : List Bool) × (pair t u x y ≡ Some (m ∷ bits)) × (side m t u x y ≡ Some bits) × (n ≡ length bits) × (n ≤ 31)
      go None is e = none-some (m, n) (sym e)
      go (Some []) is e = none-some (m, n) (sym e)
      go (Some (b ∷ bits)) is e =
          let p : ◌≡◌ {A = Bool × ℕ} (m, n) (b, length bits) = cc in
          let here : m ≡ b = ap (λ (q : Bool × ℕ). q.0) p in
          let long : n ≡ length bits = ap (λ (q : Bool × ℕ). q.1) p in
          let parts = pair_is t u x y (b ∷ bits) is in
          let head : parts.0 ≡ m = let c = parts.2 in (cc) in
          let tail : parts.1 ≡ bits = let c = parts.2 in (cc) in (
            bits,
            is ∙ ap (λ c. Some (c ∷ bits)) (sym here),
            subst (λ c. side c t u x y ≡ Some bits) head (parts.3 ∙ ap Some tail),
            long,
            omega (arith, parts.4, ap length tail, long),
          )

  pub marker_none : None ≡ marker (pair t u x y) → pair t u x y ≡ None
  marker_none e = go (pair t u x y) refl e
    where
      go : (o : Option (List Bool)) → pair t u x y ≡ o → None ≡ marker o → o ≡ None
      go None is e = refl
      go (Some []) is e = let parts = pair_is t u x y [] is in let c = parts.2 in let z : ◌≡◌ {A = ℕ} 0 1 = cc in absurd (omega arith)
      go (Some (b ∷ bits)) is e = none-some (b, length bits) e

-- reading a pair's code
module _ (t u : Table) (first : Codes t) (second : Codes u) (row : List Bool) where
  pub pair_empty : None ≡ slice_get row 0 → Reads (pair t u) row None
  pair_empty e x y code is begins = go row e begins
    where
      go : (r : List Bool) → None ≡ slice_get r 0 → Begins code r → ⊥
      go [] e b = let parts = pair_is t u x y code is in omega (arith, ap length parts.2, begins_fits code [] b)
      go (c ∷ r) e b = none-some c e

  -- a pair's code that begins the row is a code of the row's side, which begins the rest
  behind : (m : Bool) → Some m ≡ slice_get row 0 → (x y : ℤ) (code : List Bool) → pair t u x y ≡ Some code → Begins code row → (bits : List Bool) × (m ∷ bits ≡ code) × (side m t u x y ≡ Some bits) × Begins bits (drop 1 row)
  behind m e x y code is begins = go row e begins
    where
      go : (r : List Bool) → Some m ≡ slice_get r 0 → Begins code r → (bits : List Bool) × (m ∷ bits ≡ code) × (side m t u x y ≡ Some bits) × Begins bits (drop 1 r)
      go [] e b = none-some m (sym e)
      go (c ∷ r) e b =
          let here : m ≡ c = cc in
          let parts = pair_is t u x y code is in
          let ends = begins_cons parts.0 c parts.1 r (subst (λ (k : List Bool). Begins k (c ∷ r)) (sym parts.2) b) in
          let same : parts.0 ≡ m = ends.0 ∙ sym here in
          (parts.1, ap (λ k. k ∷ parts.1) (sym same) ∙ parts.2, subst (λ k. side k t u x y ≡ Some parts.1) same parts.3, ends.1)

  pub pair_none : (m : Bool) → Some m ≡ slice_get row 0 → Reads (side m t u) (drop 1 row) None → Reads (pair t u) row None
  pair_none m e none x y code is begins =
      let parts = behind m e x y code is begins in
      none x y parts.0 parts.2 parts.3

  side_codes : (m : Bool) → Codes (side m t u)
  side_codes true = second
  side_codes false = first

  pub side_length : (m : Bool) (x y : ℤ) (n : ℕ) (rest : List Bool) → Reads (side m t u) rest (Some (x, y, n)) → n ≤ 32
  side_length m x y n rest read = omega (arith, read.3, ((side_codes m).sized x y read.0 read.1).1)

  -- the displacement that the side reads is written by the other side, or by none
  pub pair_other : (m : Bool) (x y : ℤ) (n : ℕ) → Some m ≡ slice_get row 0 → Reads (side m t u) (drop 1 row) (Some (x, y, n)) → ((k : ℕ) → Some (m, k) ≢ marker (pair t u x y)) → Reads (pair t u) row None
  pair_other m x y n e read other x' y' code is begins =
      let parts = behind m e x' y' code is begins in
      let same = one_begins (side m t u) (side_codes m) x' y' x y parts.0 read.0 (drop 1 row) parts.2 read.1 parts.3 read.2 in
      let at : pair t u x y ≡ Some (m ∷ parts.0) = ap₂ (pair t u) (sym same.0) (sym same.1) ∙ is ∙ ap Some (sym parts.1) in
      other (length parts.0) (ap marker (sym at))

  pub pair_some : (m : Bool) (x y : ℤ) (n k : ℕ) → Some m ≡ slice_get row 0 → Reads (side m t u) (drop 1 row) (Some (x, y, n)) → Some (m, k) ≡ marker (pair t u x y) → Reads (pair t u) row (Some (x, y, n + 1))
  pair_some m x y n k e read mark =
      let is = marker_is t u x y m k mark in
      let s : Some is.0 ≡ Some read.0 = sym is.2 ∙ read.1 in
      let same : is.0 ≡ read.0 = cc in
      let begins : Begins is.0 (drop 1 row) = subst (λ (c : List Bool). Begins c (drop 1 row)) (sym same) read.2 in
      (m ∷ is.0, is.1, go row e begins, omega (arith, read.3, ap length same))
    where
      go : {bits : List Bool} (r : List Bool) → Some m ≡ slice_get r 0 → Begins bits (drop 1 r) → Begins (m ∷ bits) r
      go [] e b = none-some m (sym e)
      go (c ∷ r) e b = let here : c ≡ m = cc in ap₂ (λ (h : Bool) (k : List Bool). h ∷ k) here b

-- a bit in front of a code
module _ (t u : Table) (x y : ℤ) (m : Bool) (k v n : ℕ) (mark : Some (m, k) ≡ marker (pair t u x y)) (code : Some (v, n) ≡ spelled (side m t u x y)) where
  whole : (bits : List Bool) × (pair t u x y ≡ Some (m ∷ bits)) × (v ≡ value bits) × (n ≡ length bits) × (n ≤ 31)
  whole =
      let is = marker_is t u x y m k mark in
      let s : ◌≡◌ {A = Option (ℕ × ℕ)} (Some (v, n)) (Some (value is.0, length is.0)) = code ∙ ap spelled is.2 in
      let p : ◌≡◌ {A = ℕ × ℕ} (v, n) (value is.0, length is.0) = cc in
      let long : n ≡ length is.0 = ap (λ (q : ℕ × ℕ). q.1) p in
      (is.0, is.1, ap (λ (q : ℕ × ℕ). q.0) p, long, omega (arith, long, is.3, is.4))

  bit : (b : Bool) → n ≤ 31 → (bool_byte b * 2 ^ n) % 4294967296 ≡ cond b (2 ^ n) 0
  bit true few = one_shl n 32 (omega arith)
  bit false few = omega arith

  sum : (bool_byte m * 2 ^ n) % 4294967296 + v ≡ value (m ∷ whole.0)
  sum = ap₂ ◌+◌ (bit m whole.4 ∙ ap (λ j. cond m (2 ^ j) 0) whole.3) whole.2

  pub pair_fits : (bool_byte m * 2 ^ n) % 4294967296 + v < 4294967296
  pair_fits =
      let few : length (m ∷ whole.0) ≤ 32 = omega (arith, whole.3, whole.4) in
      omega (arith, sum, value_below (m ∷ whole.0), pow-le-pow_right {n = 2} (omega arith) few)

  pub pair_code : Some ((bool_byte m * 2 ^ n) % 4294967296 + v, n + 1) ≡ spelled (pair t u x y)
  pair_code =
      let long : n + 1 ≡ length (m ∷ whole.0) = omega (arith, whole.3) in
      ap₂ (λ (a b : ℕ). Some (a, b)) sum long ∙ ap spelled (sym whole.1)

-- what a call of `read` on the side, and one of `marker`, make of the row
module _ (t u : Table) (first : Codes t) (second : Codes u) (row rest : List Bool) (m : Bool) (x y : ℤ) (n : ℕ) (fx : FitsSigned w16 x) (fy : FitsSigned w16 y) (e : Some m ≡ slice_get row 0) (past : rest ≡ drop 1 row) (read : Reads (side m t u) rest (Some (x, y, n))) where
  same_x : to_z w16 (of_z w16 x) ≡ x
  same_x = to_z-of_z w16 x fx

  same_y : to_z w16 (of_z w16 y) ≡ y
  same_y = to_z-of_z w16 y fy

  marked : (o : Option (Bool × ℕ)) → o ≡ marker (pair t u (to_z w16 (of_z w16 x)) (to_z w16 (of_z w16 y))) → o ≡ marker (pair t u x y)
  marked o is = is ∙ ap₂ (λ (a b : ℤ). marker (pair t u a b)) same_x same_y

  read_past : Reads (side m t u) (drop 1 row) (Some (x, y, n))
  read_past = subst (λ (r : List Bool). Reads (side m t u) r (Some (x, y, n))) past read

  pub read_unmarked : None ≡ marker (pair t u (to_z w16 (of_z w16 x)) (to_z w16 (of_z w16 y))) → Reads (pair t u) row None
  read_unmarked is = pair_other t u first second row m x y n e read_past (λ k mark. none-some (m, k) (marked None is ∙ sym mark))

  pub read_other : (b : Bool) (k : ℕ) → Some (b, k) ≡ marker (pair t u (to_z w16 (of_z w16 x)) (to_z w16 (of_z w16 y))) → beq b m ≡ false → Reads (pair t u) row None
  read_other b k is apart =
      pair_other t u first second row m x y n e read_past
      (λ j mark. let s : Some (b, k) ≡ Some (m, j) = marked (Some (b, k)) is ∙ sym mark in unlike b m apart (let p : ◌≡◌ {A = Bool × ℕ} (b, k) (m, j) = cc in ap (λ (q : Bool × ℕ). q.0) p))
    where
      unlike : (a c : Bool) → beq a c ≡ false → a ≢ c
      unlike true true f p = true≢false f
      unlike true false f p = true≢false p
      unlike false true f p = false≢true p
      unlike false false f p = true≢false f

  pub read_same : (b : Bool) (k : ℕ) → Some (b, k) ≡ marker (pair t u (to_z w16 (of_z w16 x)) (to_z w16 (of_z w16 y))) → beq b m ≡ true → Reads (pair t u) row (Some (to_z w16 (of_z w16 x), to_z w16 (of_z w16 y), n + 1))
  read_same b k is like =
      let mark : Some (m, k) ≡ marker (pair t u x y) = ap (λ c. Some (c, k)) (sym (alike b m like)) ∙ marked (Some (b, k)) is in
      subst₂ (λ (a c : ℤ). Reads (pair t u) row (Some (a, c, n + 1))) (sym same_x) (sym same_y) (pair_some t u first second row m x y n k e read_past mark)
    where
      alike : (a c : Bool) → beq a c ≡ true → a ≡ c
      alike true true f = refl
      alike true false f = absurd (false≢true f)
      alike false true f = absurd (false≢true f)
      alike false false f = refl

  -- a displacement that was read is the row's where its marker says so
  pub read_marked : (b : Bool) (k : ℕ) → Some (b, k) ≡ marker (pair t u (to_z w16 (of_z w16 x)) (to_z w16 (of_z w16 y))) → Reads (pair t u) row (then_some (beq b m) (to_z w16 (of_z w16 x), to_z w16 (of_z w16 y), n + 1))
  read_marked b k is =
      let P : Bool → Type 0 = λ s. Reads (pair t u) row (then_some s (to_z w16 (of_z w16 x), to_z w16 (of_z w16 y), n + 1)) in
      ⊎_elim (λ like. subst P (sym like) (read_same b k is like)) (λ apart. subst P (sym apart) (read_other b k is apart)) (cases_Bool (beq b m))
