use Rattle.std.specs.Prelude.{◌≡◌, ℕ, suc, Bool, true, false}

-- A cost has a start value, a join that takes in an edge's weight, and an order, told by which value is above which.
pub record CostOf (C W : Type 0) : Type 0 where
  pub start : C
  pub join : C → W → C
  pub above : C → C → Bool

-- A value is reached from the start over at most so many edges.
pub data Within {C W : Type 0} (k : CostOf C W) : ℕ → C → Type 0 where
  begins : {n : ℕ} → Within k n k.start
  goes : {n : ℕ} {c : C} (w : W) → Within k n c → Within k (suc n) (k.join c w)

-- Of values reached over at most 255 edges any two compare, the order is transitive, and one not above another is not above it after the same weight joins both.
pub record Laws {C W : Type 0} (k : CostOf C W) : Type 0 where
  pub compares : (a b : C) → Within k 255 a → Within k 255 b → k.above a b ≡ true → k.above b a ≡ false
  pub transitive : (a b c : C) → Within k 255 a → Within k 255 b → Within k 255 c → k.above a b ≡ false → k.above b c ≡ false → k.above a c ≡ false
  pub keeps : (a b : C) (w : W) → Within k 254 a → Within k 254 b → k.above a b ≡ false → k.above (k.join a w) (k.join b w) ≡ false

-- A strict cost is a cost in which one such value above another stays above it after the same weight joins both.
pub record StrictLaws {C W : Type 0} (k : CostOf C W) : Type 0 where
  pub laws : Laws k
  pub strict : (a b : C) (w : W) → Within k 254 a → Within k 254 b → k.above a b ≡ true → k.above (k.join a w) (k.join b w) ≡ true
