-- The laws of a strict cost followed by any cost.
use Rattle.std.specs.Prelude.{◌≡◌, ℕ, Bool, true, false, not, ◌&&◌, ◌||◌, ◌⊎◌, refl}
use Rattle.std.proofs.Common.{inl, inr}
use Rattle.std.proofs.lemmas.Bool.{both_ways, cases_Bool}
use Rattle.cost.specs.Cost.{CostOf, Within, Laws, StrictLaws}
use Rattle.cost.specs.Cost.Within.{begins, goes}
use Rattle.cost.specs.TwoPart.{two_part}
use Rattle.cost.specs.declared.two_part.TwoPart.{TwoPart}

-- up: the first is above; down: it is below; tie: what the second says
later : (up down tie : Bool) → (up || (not down && tie)) ≡ false → (up ≡ false) × ((down ≡ true) ⊎ (tie ≡ false))
later true down tie h = absurd (both_ways true h refl)
later false true tie h = (refl, inl refl)
later false false tie h = (refl, inr h)

not_later : (up down tie : Bool) → up ≡ false → (down ≡ true) ⊎ (tie ≡ false) → (up || (not down && tie)) ≡ false
not_later true down tie h s = h
not_later false true tie h s = refl
not_later false false tie h (inl e) = absurd (both_ways false refl e)
not_later false false tie h (inr e) = e

sooner : (up down tie : Bool) → (up || (not down && tie)) ≡ true → (up ≡ true) ⊎ ((down ≡ false) × (tie ≡ true))
sooner true down tie h = inl refl
sooner false true tie h = absurd (both_ways false refl h)
sooner false false tie h = inr (refl, h)

module _ {A V B W : Type 0} (s : CostOf A V) (k : CostOf B W) where
  first_within : {n : ℕ} {c : TwoPart A B} → Within (two_part s k) n c → Within s n c.first
  first_within begins = begins
  first_within (goes w v) = goes w.0 (first_within v)

  second_within : {n : ℕ} {c : TwoPart A B} → Within (two_part s k) n c → Within k n c.second
  second_within begins = begins
  second_within (goes w v) = goes w.1 (second_within v)

module _ {A V B W : Type 0} (s : CostOf A V) (k : CostOf B W) (strict : StrictLaws s) (laws : Laws k) where
  compares : (a b : TwoPart A B) → Within (two_part s k) 255 a → Within (two_part s k) 255 b → (two_part s k).above a b ≡ true → (two_part s k).above b a ≡ false
  compares a b u v h =
      elim (sooner (s.above a.first b.first) (s.above b.first a.first) _ h) [
        | inl e ↦ not_later _ _ _ (strict.laws.compares _ _ (first_within s k u) (first_within s k v) e) (inl e)
        | inr e ↦ not_later _ _ _ e.0 (inr (laws.compares _ _ (second_within s k u) (second_within s k v) e.1))
      ]

  transitive : (a b c : TwoPart A B) → Within (two_part s k) 255 a → Within (two_part s k) 255 b → Within (two_part s k) 255 c → (two_part s k).above a b ≡ false → (two_part s k).above b c ≡ false → (two_part s k).above a c ≡ false
  transitive a b c u v t h l =
      not_later _ _ _ (below a b c u v t p.0 q.0) (elim (cases_Bool (s.above c.first a.first)) [ inl e ↦ inl e | inr e ↦ inr (seconds e p.1 q.1) ])
    where
      p : (s.above a.first b.first ≡ false) × ((s.above b.first a.first ≡ true) ⊎ (k.above a.second b.second ≡ false))
      p = later _ _ _ h

      q : (s.above b.first c.first ≡ false) × ((s.above c.first b.first ≡ true) ⊎ (k.above b.second c.second ≡ false))
      q = later _ _ _ l

      below : (x y z : TwoPart A B) → Within (two_part s k) 255 x → Within (two_part s k) 255 y → Within (two_part s k) 255 z → s.above x.first y.first ≡ false → s.above y.first z.first ≡ false → s.above x.first z.first ≡ false
      below x y z i j m = strict.laws.transitive _ _ _ (first_within s k i) (first_within s k j) (first_within s k m)

      seconds : s.above c.first a.first ≡ false → (s.above b.first a.first ≡ true) ⊎ (k.above a.second b.second ≡ false) → (s.above c.first b.first ≡ true) ⊎ (k.above b.second c.second ≡ false) → k.above a.second c.second ≡ false
      seconds e (inl f) g = absurd (both_ways _ (below b c a v t u q.0 e) f)
      seconds e (inr f) (inl g) = absurd (both_ways _ (below c a b t u v e p.0) g)
      seconds e (inr f) (inr g) = laws.transitive _ _ _ (second_within s k u) (second_within s k v) (second_within s k t) f g

  keeps : (a b : TwoPart A B) (w : V × W) → Within (two_part s k) 254 a → Within (two_part s k) 254 b → (two_part s k).above a b ≡ false → (two_part s k).above ((two_part s k).join a w) ((two_part s k).join b w) ≡ false
  keeps a b w u v h =
      not_later _ _ _ (strict.laws.keeps _ _ w.0 (first_within s k u) (first_within s k v) p.0) (elim p.1 [
        | inl e ↦ inl (strict.strict _ _ w.0 (first_within s k v) (first_within s k u) e)
        | inr e ↦ inr (laws.keeps _ _ w.1 (second_within s k u) (second_within s k v) e)
      ])
    where
      p : (s.above a.first b.first ≡ false) × ((s.above b.first a.first ≡ true) ⊎ (k.above a.second b.second ≡ false))
      p = later _ _ _ h

  pub two_part_laws : Laws (two_part s k)
  two_part_laws = record { compares = compares; transitive = transitive; keeps = keeps }
