use Rattle.std.proofs.Common.{◌≡◌, ℕ, ◌<◌, length, get_or, is_some, Some, sym, ap, ◌∙◌, arith}
use Rattle.std.specs.Option.{option_map}
use Rattle.coding.specs.Tables.{spelled}
use Rattle.records.specs.Bytes.{bytes_of}
use Rattle.records.specs.Tails.{put_bits}
use Rattle.records.proofs.Coming.{coming_start, coming_next, coming_end, next_sized, next_below, next_room, next_coming, end_room}
use Rattle.records.proofs.Packing.{bytes_back}
use Rattle.records.proofs.Parts.{said_of}
use Rattle.records.proofs.Polygons.{rest_named, first_inside}
use Rattle.records.proofs.corners.Corners.write_codes.Goals as goal

pub loop-number-init : goal.loop-number-init
loop-number-init g c =
    let t = g.C.Coder.table c.args.coder.now in
    let x = c.args.self in
    let first = c.start-from.ensures in (
      first_inside x.points.now x.list.now c.start-from.result x.some x.inside x.named first,
      omega (arith, c.new-tail.ensures.front),
      coming_start t x.points.now x.list.now c.after_start-numbers.result.now c.start-from.result _ _ c.requires first c.after_start-numbers.ensures (c.new-tail.ensures.none c.args.body.now),
    )

pub reach-dx-requires-clause-named : goal.reach-dx-requires-clause-named
reach-dx-requires-clause-named g c =
    let x = c.args.self in
    rest_named (length x.points.now) x.list.now c.after_start-numbers.result.now x.named c.after_start-numbers.ensures c.loop-number.number-index c.loop-number-test.true

pub unwrap-code-requires : goal.unwrap-code-requires
unwrap-code-requires g c =
    let t = g.C.Coder.table c.args.coder.now in
    let x = c.args.self in
    let ps = x.points.now in
    let rest = c.after_start-numbers.result.now in
    let l = c.loop-number in
    let k = l.number-index in
    let below = c.loop-number-test.true in
    let r = c.reach-dx.ensures in
    let to = c.reach-dx.result in
    let said = said_of (λ x y. spelled (t x y)) c.code.result to.1 to.2 l.from to.0 l.invariant.0 r.inside r.right r.below c.code.ensures in
    let n = coming_next t l.from ps rest k to.0 _ (put_bits l.body l.tail) below r.vertex l.invariant.2 in
    ap is_some (said ∙ ap spelled n.coded)

pub put-requires : goal.put-requires
put-requires g c =
    let t = g.C.Coder.table c.args.coder.now in
    let x = c.args.self in
    let ps = x.points.now in
    let rest = c.after_start-numbers.result.now in
    let l = c.loop-number in
    let k = l.number-index in
    let below = c.loop-number-test.true in
    let r = c.reach-dx.ensures in
    let to = c.reach-dx.result in
    let said = said_of (λ x y. spelled (t x y)) c.code.result to.1 to.2 l.from to.0 l.invariant.0 r.inside r.right r.below c.code.ensures in
    let n = coming_next t l.from ps rest k to.0 _ (put_bits l.body l.tail) below r.vertex l.invariant.2 in
    let keeps = g.met.C.Coder.codes c.args.coder.now in
    let r = c.unwrap-code.result in
    let code = sym said ∙ c.unwrap-code.ensures in
    let same : length c.args.body.now ≡ length l.body = omega arith in
    record {
      sized = next_sized t keeps l.from _ _ _ l.body l.tail n r code;
      spelled = next_below t keeps l.from _ _ _ l.body l.tail n r code;
      room = next_room t keeps l.from _ _ _ l.body l.tail n r code l.invariant.1 (c.requires ∙ ap Some same);
    }

pub loop-number-preserved : goal.loop-number-preserved
loop-number-preserved g c =
    let t = g.C.Coder.table c.args.coder.now in
    let x = c.args.self in
    let ps = x.points.now in
    let rest = c.after_start-numbers.result.now in
    let l = c.loop-number in
    let k = l.number-index in
    let below = c.loop-number-test.true in
    let r = c.reach-dx.ensures in
    let to = c.reach-dx.result in
    let said = said_of (λ x y. spelled (t x y)) c.code.result to.1 to.2 l.from to.0 l.invariant.0 r.inside r.right r.below c.code.ensures in
    let n = coming_next t l.from ps rest k to.0 _ (put_bits l.body l.tail) below r.vertex l.invariant.2 in
    let keeps = g.met.C.Coder.codes c.args.coder.now in
    let put = c.put.ensures in
    (r.inside, omega (arith, put.within), next_coming t keeps l.from _ _ _ l.body l.tail n c.unwrap-code.result (sym said ∙ c.unwrap-code.ensures) c.put.new.body c.put.new.self put.after)

pub finish-requires : goal.finish-requires
finish-requires g c =
    let t = g.C.Coder.table c.args.coder.now in
    let l = c.loop-number in
    let same : length c.args.body.now ≡ length l.body = omega arith in
    let all = coming_end t l.from c.args.self.points.now c.after_start-numbers.result.now l.number-index _ (put_bits l.body l.tail) c.loop-number-test.false l.invariant.2 in
    end_room _ l.body l.tail all l.invariant.1 (c.requires ∙ ap Some same)

pub returns : goal.returns
returns g c =
    let t = g.C.Coder.table c.args.coder.now in
    let l = c.loop-number in
    let after = c.finish.new.body in
    let held = c.finish.ensures in
    let small : (i : ℕ) → get_or after i 0 < 256 = λ i. (c.type_inv.body i).fits in
    let all = coming_end t l.from c.args.self.points.now c.after_start-numbers.result.now l.number-index _ (put_bits l.body l.tail) c.loop-number-test.false l.invariant.2 in
    ap (option_map bytes_of) all ∙ ap Some (bytes_back after (put_bits l.body l.tail) held.0 small held.2 held.1)
