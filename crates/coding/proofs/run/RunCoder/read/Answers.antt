use Rattle.std.proofs.Common.{◌≡◌, ℕ, ◌+◌, ◌/◌, ◌%◌, ◌^◌, ◌<◌, ◌≤◌, Bool, List, take, drop, Some, sym, refl, ap, ap₂, ◌∙◌, subst, arith, length-drop}
use native.Mathlib.Nat.{pow-le-pow_right}
use Rattle.coding.specs.Bits.{low_bits, front_number}
use Rattle.coding.specs.Directions.{taken}
use Rattle.coding.specs.Kinds.{by_direction, run_code}
use Rattle.coding.specs.Rows.{row_bits}
use Rattle.coding.specs.Tables.{Reads}
use Rattle.coding.specs.Fields.{number_is, number_short}
use Rattle.coding.specs.Legs.{leg_read, leg_none}
use Rattle.coding.specs.Runs.{run_bits, run_at, run_length, run_class, run_begins, run_ends}
use Rattle.coding.specs.Straight.{number_told, number_untold}
use Rattle.coding.proofs.run.RunCoder.read.Goals as goal

pub returns-in_err-low : goal.returns-in_err-low
returns-in_err-low c =
    let row = row_bits c.args.row in
    let h = c.in_ok-head.head in
    let is = number_is 5 row h (sym c.in_ok-head.ensures) in
    let short = number_short (h % 4) (drop 5 row) (omega arith) (ap (front_number (h % 4)) (sym c.skip.ensures) ∙ sym c.in_err-low.ensures) in
    subst (Reads (by_direction run_code) row) (sym c.from_residual-in_err-low.ensures)
    (leg_none run_code row (λ d l code small some e b. omega (arith, run_ends row h 0 is.1 is.2 d l code small some e b, short, length-drop 5 row)))

-- the two numbers at the front of the row
module _ (row rest : List Bool) (h r : ℕ) (e : Some h ≡ front_number 5 row) (past : rest ≡ drop 5 row) (f : Some r ≡ front_number (h % 4) rest) where
  head : (h < 32) × (take 5 row ≡ low_bits 5 h)
  head = let is = number_is 5 row h (sym e) in (is.1, is.2)

  low : (r < 2 ^ (h % 4)) × (take (h % 4) (drop 5 row) ≡ low_bits (h % 4) r)
  low = let is = number_is (h % 4) (drop 5 row) r (ap (front_number (h % 4)) (sym past) ∙ sym f) in (is.1, is.2)

  short : (top : ℕ) → top ≡ 2 ^ (h % 4) → (1 ≤ top + r) × (top + r ≤ 15)
  short top is =
      let few : h % 4 ≤ 3 = omega arith in
      (omega (arith, is, low.0), omega (arith, is, low.0, pow-le-pow_right {n = 2} (omega arith) few))

pub overflow_cast-head : goal.overflow_cast-head
overflow_cast-head c = omega (arith, (number_is 5 (row_bits c.args.row) c.in_ok-head.head (sym c.in_ok-head.ensures)).1)

pub returns-in_err-towards : goal.returns-in_err-towards
returns-in_err-towards c = absurd (omega (arith, (number_is 5 (row_bits c.args.row) c.in_ok-head.head (sym c.in_ok-head.ensures)).1, number_untold _ _ c.try_from.ensures c.in_err-towards.ensures.value))

pub overflow_add-highest : goal.overflow_add-highest
overflow_add-highest c = omega (arith, short _ _ _ _ c.in_ok-head.ensures c.skip.ensures c.in_ok-low.ensures c.highest.result c.highest.ensures)

pub overflow_cast-highest : goal.overflow_cast-highest
overflow_cast-highest c = omega (arith, short _ _ _ _ c.in_ok-head.ensures c.skip.ensures c.in_ok-low.ensures c.highest.result c.highest.ensures)

pub displacement-dx-requires : goal.displacement-dx-requires
displacement-dx-requires c = omega (arith, short _ _ _ _ c.in_ok-head.ensures c.skip.ensures c.in_ok-low.ensures c.highest.result c.highest.ensures)

pub returns : goal.returns
returns c =
    let row = row_bits c.args.row in
    let h = c.in_ok-head.head in
    let r = c.in_ok-low.low in
    let few = head _ _ _ _ c.in_ok-head.ensures c.skip.ensures c.in_ok-low.ensures in
    let rest = low _ _ _ _ c.in_ok-head.ensures c.skip.ensures c.in_ok-low.ensures in
    let fits = short _ _ _ _ c.in_ok-head.ensures c.skip.ensures c.in_ok-low.ensures (2 ^ (h % 4)) refl in
    let same = number_told (h / 4) c.try_from.result c.in_ok-towards.towards c.try_from.ensures c.in_ok-towards.ensures.value in
    let l = 2 ^ (h % 4) + r in
    leg_read run_code row (h / 4) l (5 + h % 4) c.displacement-dx.result (run_bits (h / 4) l) (omega (arith, few.0)) fits.0 (omega (arith, fits.1))
    (c.displacement-dx.ensures ∙ ap₂ (λ (d k : ℕ). taken d (k + r)) same c.highest.ensures) (run_at (h / 4) l fits.1) (run_begins row h r few.0 few.1 rest.0 rest.1)
    (sym (run_length (h / 4) l ∙ ap (λ k. 5 + k) (run_class row h r few.0 few.1 rest.0)))
