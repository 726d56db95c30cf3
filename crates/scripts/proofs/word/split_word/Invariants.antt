use Rattle.std.proofs.Common.{◌≡◌, ℕ, ◌<◌, List, ◌++◌, get_or}
use Rattle.scripts.specs.Words.{word_text}
use Rattle.scripts.specs.declared.word.Word.TheVariants.{Kind}
use Rattle.scripts.proofs.Begins.{words}
use Rattle.scripts.proofs.word.split_word.Given as goal

abbrev pub invariant-loop-word : goal.invariant-loop-word
invariant-loop-word l = (k : ℕ) → k < l.word-index → (rest : List ℕ) → l.line ≡ word_text (get_or words k Kind) ++ rest → ⊥
