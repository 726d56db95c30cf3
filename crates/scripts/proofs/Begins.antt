-- How a command's text begins: with one word, which says what follows.
use Rattle.std.proofs.Common.{◌≡◌, ℕ, ◌^◌, ◌<◌, ◌≤◌, cond, eqb, List, [], ◌∷◌, ◌++◌, get_or, Some, None, decimal, Option, sym, refl, ap, ◌∙◌, subst, arith, lit<, MatchOption}
use Rattle.measure.specs.declared.chosen.Chosen.TheVariants.{Line, Pace}
use Rattle.std.proofs.lemmas.List.Prefix.{front_rest}
use Rattle.std.proofs.lemmas.Fmt.{decimal_injective}
use Rattle.scripts.specs.Commands.{Fitting, command_text}
use Rattle.scripts.specs.Numbers.{Reads}
use Rattle.scripts.specs.Words.{word_text, word_of, arguments, Begun}
use Rattle.scripts.specs.declared.command.Command.{Command}
use Rattle.scripts.specs.declared.command.Command.TheVariants.{Kind, Measure, Rows, List as ListPlaces, Open, Extend, Retract, LeastPriced, LeastStraying, Cheapest, Finest, Closest}
use Rattle.scripts.specs.declared.places.Places.{Places}
use Rattle.scripts.specs.declared.word.Word.{Word}
use Rattle.scripts.specs.declared.word.Word.TheVariants.{Kind as kind_word, MeasureLine, MeasurePace, Rows as rows_word, List as list_word, Open as open_word, Extend as extend_word, Retract as retract_word, LeastPriced as priced_word, LeastStraying as straying_word, Cheapest as cheapest_word, Finest as finest_word, Closest as closest_word}

-- the words in the order of the table
abbrev pub words : List Word
words = kind_word ∷ MeasureLine ∷ MeasurePace ∷ rows_word ∷ list_word ∷ open_word ∷ extend_word ∷ retract_word ∷ priced_word ∷ straying_word ∷ cheapest_word ∷ finest_word ∷ closest_word ∷ []

pub placed : (w : Word) → (k : ℕ) × (k < 13) × (get_or words k kind_word ≡ w)
placed kind_word = (0, lit< tt, refl)
placed MeasureLine = (1, lit< tt, refl)
placed MeasurePace = (2, lit< tt, refl)
placed rows_word = (3, lit< tt, refl)
placed list_word = (4, lit< tt, refl)
placed open_word = (5, lit< tt, refl)
placed extend_word = (6, lit< tt, refl)
placed retract_word = (7, lit< tt, refl)
placed priced_word = (8, lit< tt, refl)
placed straying_word = (9, lit< tt, refl)
placed cheapest_word = (10, lit< tt, refl)
placed finest_word = (11, lit< tt, refl)
placed closest_word = (12, lit< tt, refl)

-- the word of a text, told by a few of its letters
abbrev told : List ℕ → Word
told t =
    cond (eqb (get_or t 0 0) 107) kind_word
    (cond (eqb (get_or t 0 0) 109) (cond (eqb (get_or t 8 0) 108) MeasureLine MeasurePace)
    (cond (eqb (get_or t 0 0) 114) (cond (eqb (get_or t 1 0) 111) rows_word retract_word)
    (cond (eqb (get_or t 0 0) 108) (cond (eqb (get_or t 1 0) 105) list_word (cond (eqb (get_or t 6 0) 112) priced_word straying_word))
    (cond (eqb (get_or t 0 0) 111) open_word
    (cond (eqb (get_or t 0 0) 101) extend_word
    (cond (eqb (get_or t 0 0) 99) (cond (eqb (get_or t 1 0) 104) cheapest_word closest_word) finest_word))))))

tells : (w : Word) (rest : List ℕ) → told (word_text w ++ rest) ≡ w
tells kind_word rest = refl
tells MeasureLine rest = refl
tells MeasurePace rest = refl
tells rows_word rest = refl
tells list_word rest = refl
tells open_word rest = refl
tells extend_word rest = refl
tells retract_word rest = refl
tells priced_word rest = refl
tells straying_word rest = refl
tells cheapest_word rest = refl
tells finest_word rest = refl
tells closest_word rest = refl

-- a text begins with one word only
pub one_word : (t : List ℕ) (w v : Word) (x y : List ℕ) → t ≡ word_text w ++ x → t ≡ word_text v ++ y → (w ≡ v) × (x ≡ y)
one_word t w v x y e f =
    let same : w ≡ v = sym (tells w x) ∙ ap told (sym e ∙ f) ∙ tells v y in
    let again : t ≡ word_text w ++ y = f ∙ ap (λ (u : Word). word_text u ++ y) (sym same) in
    (same, sym (front_rest t (word_text w) x e) ∙ front_rest t (word_text w) y again)

pub in_two : (c : Command) → command_text c ≡ word_text (word_of c) ++ arguments c
in_two (Kind number) = refl
in_two (Measure Line) = refl
in_two (Measure Pace) = refl
in_two (Rows places) = refl
in_two (ListPlaces places) = refl
in_two (Open width height col row) = refl
in_two (Extend direction) = refl
in_two Retract = refl
in_two (LeastPriced top bottom) = refl
in_two LeastStraying = refl
in_two (Cheapest top bottom) = refl
in_two Finest = refl
in_two (Closest budget) = refl

-- what a command holds besides its word
abbrev pub Holds : Word → Type 0
Holds kind_word = ℕ
Holds MeasureLine = Unit {0}
Holds MeasurePace = Unit {0}
Holds rows_word = Places
Holds list_word = Places
Holds open_word = ℕ × ℕ × ℕ × ℕ
Holds extend_word = ℕ
Holds retract_word = Unit {0}
Holds priced_word = ℕ × ℕ
Holds straying_word = Unit {0}
Holds cheapest_word = ℕ × ℕ
Holds finest_word = Unit {0}
Holds closest_word = ℕ

abbrev pub built : (w : Word) → Holds w → Command
built kind_word n = Kind n
built MeasureLine u = Measure Line
built MeasurePace u = Measure Pace
built rows_word p = Rows p
built list_word p = ListPlaces p
built open_word p = Open p.0 p.1 p.2 p.3
built extend_word n = Extend n
built retract_word u = Retract
built priced_word p = LeastPriced p.0 p.1
built straying_word u = LeastStraying
built cheapest_word p = Cheapest p.0 p.1
built finest_word u = Finest
built closest_word n = Closest n

rebuilt : (c : Command) → (x : Holds (word_of c)) × (c ≡ built (word_of c) x)
rebuilt (Kind number) = (number, refl)
rebuilt (Measure Line) = (tt, refl)
rebuilt (Measure Pace) = (tt, refl)
rebuilt (Rows places) = (places, refl)
rebuilt (ListPlaces places) = (places, refl)
rebuilt (Open width height col row) = ((width, height, col, row), refl)
rebuilt (Extend direction) = (direction, refl)
rebuilt Retract = (tt, refl)
rebuilt (LeastPriced top bottom) = ((top, bottom), refl)
rebuilt LeastStraying = (tt, refl)
rebuilt (Cheapest top bottom) = ((top, bottom), refl)
rebuilt Finest = (tt, refl)
rebuilt (Closest budget) = (budget, refl)

-- a text is that of no command, where it is that of no command of the word
pub none_of : (w : Word) (t : List ℕ) → ((x : Holds w) → Fitting (built w x) → t ≡ arguments (built w x) → ⊥) → Reads arguments (Begun w) t None
none_of w t none c begun e =
    let is = subst (λ (v : Word). (x : Holds v) × (c ≡ built v x)) begun.1 (rebuilt c) in
    none is.0 (subst Fitting is.1 begun.0) (e ∙ ap arguments is.1)

-- a line that a word begins, read on from there
pub read_on : (t : List ℕ) (w : Word) (rest : List ℕ) (r : Option Command) → t ≡ word_text w ++ rest → Reads arguments (Begun w) rest r → Reads command_text Fitting t r
read_on t w rest (Some c) begins read =
    let same : word_text w ++ rest ≡ word_text (word_of c) ++ arguments c = ap (λ (l : List ℕ). word_text w ++ l) read.1 ∙ ap (λ (u : Word). word_text u ++ arguments c) (sym read.0.1) in
    (read.0.0, begins ∙ same ∙ sym (in_two c))
read_on t w rest None begins none = λ c fits e.
    let one = one_word t w (word_of c) rest (arguments c) begins (e ∙ in_two c) in
    none c (fits, sym one.0) one.1

-- a number of places
pub read_count : (t : List ℕ) (n : ℕ) (r : Option Places) → MatchOption r (256 < n) (λ p. p.count ≡ n) → (n < 2 ^ 16) × (t ≡ decimal n) → Reads (λ p. decimal p.count) (λ p. p.count ≤ 256) t r
read_count t n (Some p) is read = (p.few, read.1 ∙ ap decimal (sym is))
read_count t n None above read = λ p few e.
    let fits = read.0 in
    let same = decimal_injective n p.count (omega arith) (omega arith) (sym read.1 ∙ e) in
    omega arith
