-- A price is its bits.
use Rattle.std.proofs.Common.{◌≡◌, ℕ, ◌≤◌, Some, None, Option, ap, ◌∙◌, subst}
use native.Mathlib.Bridge.{le_prop}
use native.Mathlib.Decide.{dec_le}
use Rattle.cost.specs.Prices.{priced}
use Rattle.cost.specs.declared.price.Price.{Price}

of_bits : (n : ℕ) → 1 ≤ n → n ≤ 32 → Price
of_bits n some few = record { bits = n; some = some; few = few }

pub same_price : (p q : Price) → p.bits ≡ q.bits → p ≡ q
unfolding of_bits
same_price p q e = subst (λ n. (some : 1 ≤ n) (few : n ≤ 32) → p ≡ of_bits n some few) e here q.some q.few
  where
    here : (some : 1 ≤ p.bits) (few : p.bits ≤ 32) → p ≡ of_bits p.bits some few
    here some few = ap (λ s. of_bits p.bits s p.few) (le_prop p.some some) ∙ ap (of_bits p.bits some) (le_prop p.few few)

pub priced_some : (n : ℕ) (p : Price) → p.bits ≡ n → Some p ≡ priced n
priced_some n p e = go (dec_le 1 n) (dec_le n 32)
  where
    go : (a : Dec (1 ≤ n)) (b : Dec (n ≤ 32)) → Some p ≡ (elim a as (λ _. Option Price) [ yes some ↦ elim b as (λ _. Option Price) [ yes few ↦ Some (record { bits = n; some = some; few = few }) | no _ ↦ None ] | no _ ↦ None ])
    go (yes a) (yes b) = ap Some (same_price p (record { bits = n; some = a; few = b }) e)
    go (yes a) (no b) = absurd (b (subst (λ m. m ≤ 32) e p.few))
    go (no a) b = absurd (a (subst (λ m. 1 ≤ m) e p.some))
