use Rattle.std.proofs.Common.{◌≡◌, ℕ, ◌<◌, get_or, Some, None, Err, sym, refl, ap, ◌∙◌, subst, arith, rules}
use Rattle.std.proofs.lemmas.Result.{MatchResult-at_ok, MatchResult-at_err, err_from_is_err_and}
use Rattle.coding.specs.Kinds.{kind_table}
use Rattle.records.specs.Reading.{all_kinds, ReadRight, word_at}
use Rattle.records.specs.declared.fault.Fault.TheVariants.{Head}
use Rattle.records.specs.declared.fault.HeadFault.{HeadFault}
use Rattle.records.specs.declared.fault.HeadFault.TheVariants.{Kind}
use Rattle.records.proofs.Acceptance.{read_right}
use Rattle.records.proofs.Exact.{read_exact}
use Rattle.records.proofs.Known.{kind_known, kind_unknown, kinds_codes}
use Rattle.records.proofs.Traversal.{mapped_ok, mapped_err}
use Rattle.records.proofs.reader.read.Goals as goal

pub returns-in_err-head : goal.returns-in_err-head
returns-in_err-head c =
    let list = c.args.list.now in
    let right : ReadRight all_kinds c.args.bytes.now list list c.from_residual.result = search rules in
    record { right = right; exact = read_exact all_kinds kinds_codes c.args.bytes.now list list _ refl right }

pub returns-in_err-coder : goal.returns-in_err-coder
returns-in_err-coder c =
    let bs = c.args.bytes.now in
    let list = c.args.list.now in
    let parts = c.in_ok-head.ensures in
    let k = mapped_err c.try_from.result c.in_err-coder.field-0.0 (λ _. Kind) c.in_err-coder.ensures.cases (λ e made. search rules) in
    let not = MatchResult-at_err _ _ k.0 k.1 c.try_from.ensures in
    let none : all_kinds (word_at bs 2) ≡ None = kind_unknown (word_at bs 2) (λ j e. not.1 j (e ∙ sym parts.1)) in
    let r = c.from_residual-in_err-coder.result in
    let p = err_from_is_err_and r c.from_residual-in_err-coder.ensures.1 in
    let said : r ≡ Err (Head Kind) = p.1 ∙ ap Err (p.2 ∙ ap Head k.2) in
    let right = subst (ReadRight all_kinds bs list list) (sym said) ((parts.0, none), refl) in
    record { right = right; exact = read_exact all_kinds kinds_codes bs list list _ refl right }

pub returns : goal.returns
returns c =
    let bs = c.args.bytes.now in
    let h = c.in_ok-head.head in
    let parts = c.in_ok-head.ensures in
    let small : (i : ℕ) → get_or bs i 0 < 256 = λ i. (c.type_inv.bytes i).fits in
    let k = c.in_ok-coder.coder in
    let numbered = MatchResult-at_ok _ _ k (mapped_ok HeadFault c.try_from.result k c.in_ok-coder.ensures.cases) c.try_from.ensures in
    let known : all_kinds (word_at bs 2) ≡ Some (kind_table k) = kind_known k (word_at bs 2) (numbered ∙ parts.1) in
    let after = c.read_after_head.new.list in
    let right = read_right all_kinds bs (kind_table k) parts.0 small known h.kind h.start h.edges h.codes.now c.args.list.now after c.read_after_head.result parts.1 parts.2 parts.3 parts.4 c.read_after_head.ensures in
    record { right = right; exact = read_exact all_kinds kinds_codes bs c.args.list.now after _ (omega arith) right }
