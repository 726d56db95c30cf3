-- Chain codes.
use Rattle.std.specs.Prelude.{◌≡◌, ℕ, Bool, List, length, Some, ◌==◌}
use Rattle.std.proofs.Common.{sym, ap, ◌∙◌, arith}
use Rattle.std.proofs.lemmas.Bool.{eqb-true}
use Rattle.coding.specs.Bits.{low_bits}
use Rattle.coding.specs.Kinds.{chain_code}
use Rattle.coding.specs.BitLists.{low_bits_one}
use Rattle.coding.specs.Fields.{cond_some, begins_same}
use Rattle.coding.specs.Legs.{Legs}

chain_is : (d l : ℕ) (code : List Bool) → chain_code d l ≡ Some code → (l ≡ 1) × (low_bits 3 d ≡ code) × (length code ≡ 3)
chain_is d l code e =
    let parts = cond_some (l == 1) (low_bits 3 d) code e in
    (eqb-true l 1 parts.0, parts.1, ap length (sym parts.1))

pub chain_legs : Legs chain_code
chain_legs =
    record {
      sized = λ d l code small some e. let is = chain_is d l code e in (omega (arith, is.2), omega (arith, is.2), omega (arith, is.0));
      apart = λ d l e m code code' small some small' some' p q b.
          let is = chain_is d l code p in
          let is' = chain_is e m code' q in
          (low_bits_one 3 d e small small' (is.1 ∙ begins_same 3 code code' is.2 is'.2 b ∙ sym is'.1), is.0 ∙ sym is'.0);
    }

pub chain_length : (d l : ℕ) (code : List Bool) → chain_code d l ≡ Some code → length code ≡ 3
chain_length d l code e = (chain_is d l code e).2
