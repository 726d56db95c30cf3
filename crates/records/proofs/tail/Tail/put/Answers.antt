use Rattle.std.proofs.Common.{◌≡◌, ◌+◌, ◌-◌, ◌/◌, ◌++◌, length, take, sym, refl, ap, ◌∙◌, append_assoc, arith, length-drop, length-take}
use Rattle.std.proofs.lemmas.List.{take_all}
use Rattle.std.proofs.lemmas.Nat.{one_shl}
use Rattle.coding.specs.Bits.{bits_of, low_bits}
use Rattle.records.proofs.Filling.{byte_out, byte_fits, code_in, code_below, put_front, tail_below}
use Rattle.records.proofs.tail.Tail.put.Goals as goal

pub loop-byte-init : goal.loop-byte-init
loop-byte-init c =
    let t = c.args.self.now in
    let few = t.few in
    let sized = c.requires.sized in
    (code_below t.bits t.len c.args.code c.args.width t.spelled (omega arith) c.requires.spelled, omega arith, refl)

pub overflow_cast-byte-in-loop-byte : goal.overflow_cast-byte-in-loop-byte
overflow_cast-byte-in-loop-byte c =
    let l = c.loop-byte in
    let count = simp (length-take, length-drop) at l.auto.byte-items in
    omega (arith, byte_fits l.bits l.len (omega arith) l.invariant.0)

pub loop-byte-preserved : goal.loop-byte-preserved
loop-byte-preserved c =
    let l = c.loop-byte in
    let p = l.len - 8 in
    let inv = l.invariant in
    let few = c.args.self.now.few in
    let sized = c.requires.sized in
    let count = simp (length-take, length-drop) at l.auto.byte-items in
    let one = one_shl p 64 (omega arith) in
    (tail_below l.bits p _ one, omega arith, byte_out l.byte-items l.byte-index l.bits l.len p _ refl one (omega arith) (omega arith) ∙ inv.2)

pub returns-clause-after : goal.returns-clause-after
returns-clause-after c =
    let t = c.args.self.now in
    let few = t.few in
    let sized = c.requires.sized in
    let room = c.requires.room in
    let l = c.loop-byte in
    let front = bits_of (take t.at c.args.body.now) in
    let n = (t.len + c.args.width) / 8 in
    let count : length l.byte-items ≡ n = l.auto.byte-items ∙ simp (length-take, length-drop) (omega arith) in
    ap (λ a. a ++ low_bits l.len l.bits) (put_front c.args.body.now l.byte-items t.at (t.at + n) _ (omega arith) (omega arith))
    ∙ append_assoc front (bits_of l.byte-items) (low_bits l.len l.bits)
    ∙ ap (λ xs. front ++ (bits_of xs ++ low_bits l.len l.bits)) (sym (take_all l.byte-index l.byte-items (omega arith)))
    ∙ ap (λ bs. front ++ bs) l.invariant.2
    ∙ code_in front t.bits t.len c.args.code c.args.width t.spelled (omega arith) c.requires.spelled
