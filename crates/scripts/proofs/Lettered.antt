-- The text of a command is ASCII.
use Rattle.std.proofs.Common.{◌≡◌, ℕ, ◌^◌, ◌<◌, Bool, true, ◌&&◌, ltb, List, [], ◌∷◌, IsAscii, IsUtf8, None, Ok, Err, Result, MatchResult, decimal, sym, refl, subst, arith, lit<}
use Rattle.std.proofs.lemmas.Str.Ascii.{IsAscii-nil, IsAscii-cons}
use Rattle.std.proofs.lemmas.Fmt.{IsAscii-decimal}
use Rattle.std.proofs.lemmas.Bool.{ltb-true, and_parts}
use Rattle.std.proofs.lemmas.Str.{IsAscii-append, IsUtf8-from_ascii}
use Rattle.std.specs.Result.{result_ok}
use Rattle.scripts.specs.Commands.{Fitting, command_text}
use Rattle.scripts.specs.Numbers.{spaced}
use Rattle.scripts.specs.Words.{word_text, word_of, arguments}
use Rattle.scripts.specs.declared.command.Command.{Command}
use Rattle.scripts.specs.declared.command.Command.TheVariants.{Kind, Measure, Rows, List as ListPlaces, Open, Extend, Retract, LeastPriced, LeastStraying, Cheapest, Finest, Closest}
use Rattle.scripts.specs.declared.word.Word.{Word}
use Rattle.scripts.specs.declared.word.Word.TheVariants.{Kind as kind_word, MeasureLine, MeasurePace, Rows as rows_word, List as list_word, Open as open_word, Extend as extend_word, Retract as retract_word, LeastPriced as priced_word, LeastStraying as straying_word, Cheapest as cheapest_word, Finest as finest_word, Closest as closest_word}
use Rattle.scripts.proofs.Begins.{in_two}

abbrev low : List ℕ → Bool
low [] = true
low (b ∷ bs) = ltb b 128 && low bs

ascii_low : (bs : List ℕ) → low bs ≡ true → IsAscii bs
ascii_low [] e = IsAscii-nil
ascii_low (b ∷ bs) e =
    let both = and_parts (ltb b 128) (low bs) e in
    IsAscii-cons b bs (ltb-true b 128 both.0) (ascii_low bs both.1)

word_ascii : (w : Word) → IsAscii (word_text w)
word_ascii kind_word = ascii_low (word_text kind_word) refl
word_ascii MeasureLine = ascii_low (word_text MeasureLine) refl
word_ascii MeasurePace = ascii_low (word_text MeasurePace) refl
word_ascii rows_word = ascii_low (word_text rows_word) refl
word_ascii list_word = ascii_low (word_text list_word) refl
word_ascii open_word = ascii_low (word_text open_word) refl
word_ascii extend_word = ascii_low (word_text extend_word) refl
word_ascii retract_word = ascii_low (word_text retract_word) refl
word_ascii priced_word = ascii_low (word_text priced_word) refl
word_ascii straying_word = ascii_low (word_text straying_word) refl
word_ascii cheapest_word = ascii_low (word_text cheapest_word) refl
word_ascii finest_word = ascii_low (word_text finest_word) refl
word_ascii closest_word = ascii_low (word_text closest_word) refl

spaced_ascii : (n : ℕ) (rest : List ℕ) → n < 2 ^ 64 → IsAscii rest → IsAscii (spaced n rest)
spaced_ascii n rest small ascii = IsAscii-append (decimal n) (32 ∷ rest) (IsAscii-decimal n small) (IsAscii-cons 32 rest (lit< tt) ascii)

arguments_ascii : (c : Command) → Fitting c → IsAscii (arguments c)
arguments_ascii (Kind number) fits = IsAscii-decimal number (omega arith)
arguments_ascii (Measure chosen) fits = IsAscii-nil
arguments_ascii (Rows places) fits = IsAscii-decimal places.count (omega arith)
arguments_ascii (ListPlaces places) fits = IsAscii-decimal places.count (omega arith)
arguments_ascii (Open width height col row) fits = spaced_ascii width _ (omega arith) (spaced_ascii height _ (omega arith) (spaced_ascii col _ (omega arith) (IsAscii-decimal row (omega arith))))
arguments_ascii (Extend direction) fits = IsAscii-decimal direction (omega arith)
arguments_ascii Retract fits = IsAscii-nil
arguments_ascii (LeastPriced top bottom) fits = spaced_ascii top _ fits.0 (IsAscii-decimal bottom fits.1)
arguments_ascii LeastStraying fits = IsAscii-nil
arguments_ascii (Cheapest top bottom) fits = spaced_ascii top _ fits.0 (IsAscii-decimal bottom fits.1)
arguments_ascii Finest fits = IsAscii-nil
arguments_ascii (Closest budget) fits = IsAscii-decimal budget (omega arith)

pub command_ascii : (c : Command) → Fitting c → IsAscii (command_text c)
command_ascii c fits = subst IsAscii (sym (in_two c)) (IsAscii-append (word_text (word_of c)) (arguments c) (word_ascii (word_of c)) (arguments_ascii c fits))

-- what is not UTF-8 is the text of no command
pub no_text : {A E : Type 0} (line : List ℕ) (r : Result A E) (P : A → Type 0) (Q : E → Type 0) → result_ok r ≡ None → MatchResult r P (λ e. (IsUtf8 line → ⊥) × Q e) → (c : Command) → Fitting c → line ≡ command_text c → ⊥
no_text line (Ok x) P Q none cases c fits e = let z : ◌≡◌ {A = ℕ} 0 1 = cc in omega arith
no_text line (Err x) P Q none cases c fits e = cases.0 (subst IsUtf8 (sym e) (IsUtf8-from_ascii (command_text c) (command_ascii c fits)))
