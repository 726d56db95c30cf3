use Rattle.std.proofs.Common.{◌++◌, sym, ap, ◌∙◌, arith}
use Rattle.scripts.specs.Words.{word_text}
use Rattle.scripts.specs.declared.word.Word.{Word}
use Rattle.scripts.proofs.Begins.{placed}
use Rattle.scripts.proofs.word.split_word.Goals as goal

pub returns : goal.returns
returns c w rest e =
    let p = placed w in
    let inside = p.1 in
    c.loop-word.invariant p.0 (omega arith) rest (e ∙ ap (λ (u : Word). word_text u ++ rest) (sym p.2))
