-- Decimals: how they begin, and what is read as one.
use Rattle.std.proofs.Common.{◌≡◌, ℕ, ◌^◌, ◌<◌, ◌≤◌, List, length, get_or, Some, None, Ok, Err, decimal, MatchOption, Option, Result, sym, ap, ◌∙◌, subst, arith, rules}
use native.Mathlib.Decide.{dec_lt}
use Rattle.std.proofs.lemmas.Fmt.{decimal_is_IsNumeral, decimal_nonempty, decimal_digit, first_decimal, decimal-digits_value, parse-decimal, decimal_injective}
use Rattle.std.proofs.lemmas.Str.Parse.{IsNumeralModel, numerals_by_value, tells_digits, digit_at, parse_plain}
use Rattle.std.specs.Result.{OkIff, result_ok}
use Rattle.std.specs.Str.Parse.{AllDigits, digits_value, ParsesUnsigned}
use Rattle.std.specs.Int.{IsInRange}
use Rattle.scripts.specs.Numbers.{Reads}

own : IsNumeralModel (AllDigits 10) (digits_value 10)
own = numerals_by_value (AllDigits 10) tells_digits

-- every byte of a decimal is a digit
pub decimal_at : (n i : ℕ) → n < 2 ^ 64 → i < length (decimal n) → IsInRange 48 57 (get_or (decimal n) i 0)
decimal_at n i small inside = digit_at (decimal n) i (search (rules, decimal_is_IsNumeral n small)) inside

-- no decimal begins with a plus
pub no_plus : (t : List ℕ) → get_or t 0 0 ≡ 43 → (n : ℕ) → n < 2 ^ 64 → t ≡ decimal n → ⊥
no_plus t plus n small is =
    let d = decimal_at n 0 small (decimal_nonempty n small) in
    let same = ap (λ (l : List ℕ). get_or l 0 0) is in
    omega arith

-- only the decimal of 0 begins with a zero
pub no_zero : (t : List ℕ) → get_or t 0 0 ≡ 48 → 1 < length t → (n : ℕ) → n < 2 ^ 64 → t ≡ decimal n → ⊥
no_zero t zero long n small is =
    let first = ap (λ (l : List ℕ). get_or l 0 0) is in
    let same = ap length is in
    elim (dec_lt 0 n) [
      | yes some ↦ let above = first_decimal n some small in omega arith
      | no none ↦
          let one = ap length (decimal_digit n (omega arith)) in
          omega arith
    ]

-- no byte of a decimal is a space
pub no_space : (n : ℕ) → n < 2 ^ 64 → (i : ℕ) → i < length (decimal n) → get_or (decimal n) i 0 ≡ 32 → ⊥
no_space n small i inside space = let d = decimal_at n i small inside in omega arith

read_back : {E : Type 0} (bs : List ℕ) (r : Result ℕ E) → ParsesUnsigned 64 10 bs r → OkIff r (AllDigits 10 bs × (0 < length bs) × (digits_value 10 bs < 2 ^ 64)) (digits_value 10 bs) → (get_or bs 0 0 ≡ 48 → length bs ≤ 1) → Reads decimal (λ n. n < 2 ^ 64) bs (result_ok r)
read_back bs (Ok x) reads converted zero =
    let is = decimal-digits_value own bs converted.0.0 converted.0.1 (λ z. let short = zero z in let some = converted.0.1 in omega arith) converted.0.2 in
    (subst (λ (n : ℕ). n < 2 ^ 64) (sym converted.1) converted.0.2, sym is ∙ ap decimal (sym converted.1))
read_back {E} bs (Err e) reads converted zero = λ n small is.
    let ok : ◌≡◌ {A = Result ℕ E} (Err e) (Ok n) = parse-decimal 64 n bs (Err e) small small is reads in
    let z : ◌≡◌ {A = ℕ} 0 1 = cc in
    omega arith

-- a text with no plus and no zero before it, read by `parse`
pub reads_number : {E : Type 0} (bs : List ℕ) (r : Result ℕ E) → ParsesUnsigned 64 10 bs r → (get_or bs 0 0 ≡ 43 → ⊥) → (get_or bs 0 0 ≡ 48 → length bs ≤ 1) → Reads decimal (λ n. n < 2 ^ 64) bs (result_ok r)
reads_number bs r reads plus zero = read_back bs r reads (parse_plain own 64 bs r reads plus) zero

-- a number that is read, taken at a narrower width
pub narrowed : {A : Type 0} (value : A → ℕ) (limit : ℕ) → limit ≤ 2 ^ 64 → (t : List ℕ) (n : ℕ) (r : Option A) → MatchOption r (limit ≤ n) (λ x. (value x ≡ n) × (n < limit)) → n < 2 ^ 64 → t ≡ decimal n
    → Reads (λ x. decimal (value x)) (λ x. value x < limit) t r
narrowed value limit within t n (Some x) is small e = (omega (arith, is.0, is.1), e ∙ ap decimal (sym is.0))
narrowed value limit within t n None above small e = λ x fits other.
    let same = decimal_injective (value x) n (omega arith) small (sym other ∙ e) in
    omega arith

pub none_narrower : {A : Type 0} (value : A → ℕ) (limit : ℕ) → limit ≤ 2 ^ 64 → (t : List ℕ) → Reads decimal (λ m. m < 2 ^ 64) t None → Reads (λ x. decimal (value x)) (λ x. value x < limit) t None
none_narrower value limit within t none = λ x fits. none (value x) (omega arith)
