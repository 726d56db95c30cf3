use Rattle.std.proofs.Common.{◌+◌, ◌-◌, ◌^◌, min, get_or, sym, ap, ◌∙◌, arith}
use Rattle.exchange.proofs.Numerals.{digit_more, digits_more}
use Rattle.exchange.proofs.words.long_number.Goals as goal

pub loop-digit-preserved : goal.loop-digit-preserved
loop-digit-preserved c =
    let w = c.as_bytes-digits.result.now in
    let i = c.loop-digit.digit-index in
    let taken = c.loop-digit-test.true in
    let is = c.saturating_add-number.ensures ∙ ap (λ k. min (k + (get_or w i 0 - 48)) (2 ^ 64 - 1)) c.saturating_mul.ensures in (
      digits_more w i taken (sym c.if-not-is_ascii_digit.ensures.value) c.loop-digit.invariant.0,
      digit_more w i c.loop-digit.number c.saturating_add-number.result (2 ^ 64 - 1) taken is c.loop-digit.invariant.1,
      omega arith,
    )
