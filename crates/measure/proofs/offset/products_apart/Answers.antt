use Rattle.std.proofs.Common.{◌-ℤ◌, ◌*ℤ◌, arith, w32, SFits}
use Rattle.std.proofs.lemmas.Int.{to_z-of_z}
use Rattle.measure.specs.Bounds.{product_most, products_most, small_fits}
use Rattle.measure.proofs.offset.products_apart.Goals as goal

pub overflow_sub-result : goal.overflow_sub-result
overflow_sub-result c =
    let x = c.args in
    let fa = c.ranges.a in
    let fb = c.ranges.b in
    let fc = c.ranges.c in
    let fd = c.ranges.d in
    let ha = c.requires.0 in
    let hb = c.requires.1.0 in
    let hc = c.requires.1.1.0 in
    let hd = c.requires.1.1.1 in
    let ab : SFits w32 (x.a *ℤ x.b) = small_fits _ (omega (arith, product_most 255 x.a x.b ha hb)) in
    let cd : SFits w32 (x.c *ℤ x.d) = small_fits _ (omega (arith, product_most 255 x.c x.d hc hd)) in
    simp to_z-of_z (small_fits _ (products_most x.a x.b x.c x.d ha hb hc hd))

pub returns : goal.returns
returns c =
    let x = c.args in
    let fa = c.ranges.a in
    let fb = c.ranges.b in
    let fc = c.ranges.c in
    let fd = c.ranges.d in
    let ha = c.requires.0 in
    let hb = c.requires.1.0 in
    let hc = c.requires.1.1.0 in
    let hd = c.requires.1.1.1 in
    let ab : SFits w32 (x.a *ℤ x.b) = small_fits _ (omega (arith, product_most 255 x.a x.b ha hb)) in
    let cd : SFits w32 (x.c *ℤ x.d) = small_fits _ (omega (arith, product_most 255 x.c x.d hc hd)) in
    let all : SFits w32 (x.a *ℤ x.b -ℤ x.c *ℤ x.d) = small_fits _ (products_most x.a x.b x.c x.d ha hb hc hd) in
    simp to_z-of_z
