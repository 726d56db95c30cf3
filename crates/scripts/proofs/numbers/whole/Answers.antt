use Rattle.std.proofs.Common.{◌≡◌, ℕ, ◌^◌, ◌<◌, ◌≤◌, length, get_or, decimal, sym, subst, arith, lit<}
use Rattle.std.proofs.lemmas.Str.Pattern.{starts_char}
use Rattle.scripts.proofs.Decimals.{no_plus, no_zero, reads_number}
use Rattle.scripts.specs.Numbers.{Reads}
use Rattle.scripts.proofs.numbers.whole.Goals as goal
use Rattle.scripts.proofs.numbers.whole.Goals.{else-text-gt1-via-then-text-gt1+else-starts_with-2, else-text-gt1-via-else-text-gt1}

pub returns-then-starts_with : goal.returns-then-starts_with
returns-then-starts_with c =
    let t = c.args.text.now in
    no_plus t ((starts_char 43 t _ c.starts_with.ensures.cases (lit< tt) (lit< tt)).0 c.if-starts_with.true)

pub returns-then-starts_with-2 : goal.returns-then-starts_with-2
returns-then-starts_with-2 c =
    let t = c.args.text.now in
    no_zero t ((starts_char 48 t _ c.starts_with-then-text-gt1.ensures.cases (lit< tt) (lit< tt)).0 c.if-starts_with-2.true) c.if-text-gt1.true

pub returns : goal.returns
returns c =
    let t = c.args.text.now in
    let unsigned : get_or t 0 0 ≡ 43 → ⊥ = λ e.
    let yes = (starts_char 43 t _ c.starts_with.ensures.cases (lit< tt) (lit< tt)).1 e in
    let z : ◌≡◌ {A = ℕ} 0 1 = cc in
    omega arith in
    let short : get_or t 0 0 ≡ 48 → length t ≤ 1 = λ e.
    elim c.else-text-gt1.branch [
      | else-text-gt1-via-then-text-gt1+else-starts_with-2 w ↦
          let yes = (starts_char 48 t _ w.starts_with-then-text-gt1.ensures.cases (lit< tt) (lit< tt)).1 e in
          let z : ◌≡◌ {A = ℕ} 0 1 = cc in
          omega arith
      | else-text-gt1-via-else-text-gt1 w ↦ w.if-text-gt1.false
    ] in
    subst (Reads decimal (λ n. n < 2 ^ 64) t) (sym c.ok.ensures.value) (reads_number t c.parse.result c.parse.ensures.value.0 unsigned short)
