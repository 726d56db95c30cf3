-- The laws of bits: over at most 255 edges of at most 32 bits no sum reaches 65535.
use Rattle.std.specs.Prelude.{ℕ, ◌*◌, ◌≤◌}
use Rattle.std.proofs.Common.{arith}
use Rattle.std.proofs.lemmas.Bool.{ltb-true, ltb-false, lt-ltb, le-ltb}
use Rattle.cost.specs.Bits.{bits_cost}
use Rattle.cost.specs.Cost.{Within, Laws, StrictLaws}
use Rattle.cost.specs.Cost.Within.{begins, goes}
use Rattle.cost.specs.declared.bits.Bits.{Bits}

few : {n : ℕ} {b : Bits} → Within bits_cost n b → b.count ≤ n * 32
few begins = omega arith
few (goes {n = n} {c = b} w v) = let h = few v in let most = w.few in omega arith

pub bits_laws : Laws bits_cost
bits_laws = record {
  compares = λ a b u v h. le-ltb _ _ (omega (arith, ltb-true _ _ h));
  transitive = λ a b c u v t h l. le-ltb _ _ (omega (arith, ltb-false _ _ h, ltb-false _ _ l));
  keeps = λ a b w u v h. le-ltb _ _ (omega (arith, ltb-false _ _ h));
}

pub bits_strict : StrictLaws bits_cost
bits_strict = record {
  laws = bits_laws;
  strict = λ a b w u v h. lt-ltb _ _ (omega (arith, ltb-true _ _ h, few u, few v, w.few));
}
