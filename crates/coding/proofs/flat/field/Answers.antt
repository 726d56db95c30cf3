use Rattle.std.proofs.Common.{◌≡◌, pos, sym, ap, subst, ◌∙◌, w16, to_z, of_z, arith}
use Rattle.std.specs.Prelude.{◌<◌, true, false, unsigned_abs, MatchOption}
use Rattle.std.specs.Int.{int_rem_euclid}
use Rattle.std.proofs.lemmas.Int.{ints, to_z-of_z}
use Rattle.coding.specs.Bits.{low_bits}
use Rattle.coding.specs.Kinds.{twos}
use Rattle.coding.specs.Tables.{near}
use Rattle.coding.specs.Flats.{field, field_rest, field_small, field_answer}
use Rattle.coding.proofs.flat.field.Goals as goal

pub returns : goal.returns
returns c =
    let z = c.args.z in
    subst (λ r. MatchOption r (near z ≡ false) (λ n. (near z ≡ true) × (n < 2048) × (low_bits 11 n ≡ twos 11 z))) (sym c.then_some.ensures)
    (field_answer z _ c.near.result (c.near.ensures ∙ ap near (to_z-of_z w16 z c.ranges.z))
    (λ t.
    let rest : c.rem_euclid.result ≡ pos (field z) = c.rem_euclid.ensures.value ∙ ap (λ y. int_rem_euclid y (pos 2048)) (to_z-of_z w16 z c.ranges.z) ∙ field_rest z t in
    ap (λ r. unsigned_abs (to_z w16 (of_z w16 r))) rest ∙ ap unsigned_abs (to_z-of_z w16 (pos (field z)) (omega (arith, ints, (field_small z t).0)))))
