use Rattle.std.proofs.Common.{◌≡◌, ◌+◌, ◌*◌, ◌^◌, ◌<◌, Bool, true, false, cond, take, Some, sym, refl, ap, ◌∙◌, arith}
use mir.Val.{bool_byte}
use Rattle.coding.specs.Bits.{value}
use Rattle.coding.specs.Rows.{row_bits}
use Rattle.coding.specs.Fields.{row_length, number_some, value_more, value_bound}
use Rattle.coding.proofs.bit_row.BitRow.number.Goals as goal

module _ (c : goal.In_ok-bit) where
  more : 2 * c.loop-k.number + bool_byte c.in_ok-bit.bit ≡ value (take (c.loop-k.k + 1) (row_bits c.args.self))
  more =
      ap (λ b. 2 * c.loop-k.number + b) (byte c.in_ok-bit.bit)
      ∙ value_more (row_bits c.args.self) c.loop-k.k c.loop-k.number c.in_ok-bit.bit (omega (arith, row_length c.args.self)) c.loop-k.invariant (sym c.in_ok-bit.ensures)
    where
      byte : (b : Bool) → bool_byte b ≡ cond b 1 0
      byte true = refl
      byte false = refl

  bound : value (take (c.loop-k.k + 1) (row_bits c.args.self)) < 2 ^ 32
  bound = value_bound (row_bits c.args.self) (c.loop-k.k + 1) 32 (omega arith) (omega (arith, row_length c.args.self))

pub overflow_mul-number : goal.overflow_mul-number
overflow_mul-number c = omega (arith, more c, bound c)

pub overflow_add-number : goal.overflow_add-number
overflow_add-number c = omega (arith, more c, bound c)

pub loop-k-preserved : goal.loop-k-preserved
loop-k-preserved c = more c

pub returns : goal.returns
returns c =
    let row = row_bits c.args.self in
    let n : c.loop-k.k ≡ c.args.n = omega arith in
    ap Some (c.loop-k.invariant ∙ ap (λ k. value (take k row)) n) ∙ sym (number_some c.args.n row (omega arith) (omega (arith, row_length c.args.self)))
