use Rattle.std.proofs.Common.{ltb, rules}
use Rattle.std.proofs.lemmas.List.Sorted.{answers_always}
use Rattle.outline.proofs.Rising.{rising_answer}
use Rattle.outline.proofs.polygon.rises.Goals as goal

pub returns : goal.returns
returns c =
    rising_answer c.args.list.now _ (c.is_sorted_by.ensures.cases ltb (answers_always _ _ _ (λ f a r q k. search rules)))
