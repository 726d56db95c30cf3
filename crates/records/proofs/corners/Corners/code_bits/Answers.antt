use Rattle.std.proofs.Common.{sym, ◌∙◌, arith}
use Rattle.coding.specs.Tables.{price_of}
use Rattle.records.proofs.Parts.{said_of}
use Rattle.records.proofs.Prices.{bits_more, bits_none, price_small}
use Rattle.records.proofs.corners.Corners.code_bits.Goals as goal

pub returns-in_err-price : goal.returns-in_err-price
returns-in_err-price g c =
    let t = g.C.Coder.table c.args.coder.now in
    let x = c.args.self in
    let ps = x.points.now in
    let rest = c.after_start-numbers.result.now in
    let l = c.loop-number in
    let r = c.reach-dx.ensures in
    let to = c.reach-dx.result in
    let said = said_of (λ x y. price_of (t x y)) c.price.result to.1 to.2 l.from to.0 l.invariant.0 r.inside r.right r.below c.price.ensures in
    c.from_residual.ensures ∙ bits_none t l.from ps rest l.number-index l.bits _ l.invariant.2 to.0 c.loop-number-test.true r.vertex (sym c.in_err-price.was ∙ said)

pub loop-number-preserved : goal.loop-number-preserved
loop-number-preserved g c =
    let t = g.C.Coder.table c.args.coder.now in
    let x = c.args.self in
    let ps = x.points.now in
    let rest = c.after_start-numbers.result.now in
    let l = c.loop-number in
    let r = c.reach-dx.ensures in
    let to = c.reach-dx.result in
    let said = said_of (λ x y. price_of (t x y)) c.price.result to.1 to.2 l.from to.0 l.invariant.0 r.inside r.right r.below c.price.ensures in
    let price = sym c.in_ok-price.was ∙ said in
    let small = price_small t (g.met.C.Coder.codes c.args.coder.now) l.from to.0 c.in_ok-price.price price in
    (r.inside, omega (arith, small, l.invariant.1), bits_more t l.from ps rest l.number-index l.bits _ l.invariant.2 to.0 c.loop-number-test.true r.vertex c.in_ok-price.price price)
