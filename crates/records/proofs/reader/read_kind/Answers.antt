use Rattle.std.proofs.Common.{◌≡◌, ℕ, ◌<◌, get_or, Err, sym, refl, ◌∙◌, arith, rules}
use Rattle.records.specs.Reading.{only, ReadRight, word_at}
use Rattle.records.specs.declared.fault.Fault.TheVariants.{Head}
use Rattle.records.specs.declared.fault.HeadFault.TheVariants.{Kind}
use Rattle.records.proofs.Acceptance.{read_right, only_kind}
use Rattle.records.proofs.Exact.{read_exact, only_codes}
use Rattle.records.proofs.reader.read_kind.Goals as goal

pub returns-in_err-head : goal.returns-in_err-head
returns-in_err-head g c =
    let t = g.C.Coder.table c.args.coder.now in
    let k = c.args.kind in
    let list = c.args.list.now in
    let right : ReadRight (only k t) c.args.bytes.now list list c.from_residual.result = search rules in
    record { right = right; exact = read_exact (only k t) (only_codes k t (g.met.C.Coder.codes c.args.coder.now)) c.args.bytes.now list list _ refl right }

pub returns-then-head-kind : goal.returns-then-head-kind
returns-then-head-kind g c =
    let t = g.C.Coder.table c.args.coder.now in
    let k = c.args.kind in
    let list = c.args.list.now in
    let right : ReadRight (only k t) c.args.bytes.now list list (Err (Head Kind)) = search rules in
    record { right = right; exact = read_exact (only k t) (only_codes k t (g.met.C.Coder.codes c.args.coder.now)) c.args.bytes.now list list _ refl right }

pub returns : goal.returns
returns g c =
    let t = g.C.Coder.table c.args.coder.now in
    let bs = c.args.bytes.now in
    let k = c.args.kind in
    let h = c.in_ok-head.head in
    let parts = c.in_ok-head.ensures in
    let small : (i : ℕ) → get_or bs i 0 < 256 = λ i. (c.type_inv.bytes i).fits in
    let same : word_at bs 2 ≡ k = sym parts.1 ∙ c.if-head-kind.false in
    let after = c.read_after_head.new.list in
    let right =
    read_right (only k t) bs t parts.0 small (only_kind k (word_at bs 2) t same) h.kind h.start h.edges h.codes.now c.args.list.now after c.read_after_head.result parts.1 parts.2 parts.3 parts.4 c.read_after_head.ensures in
    record { right = right; exact = read_exact (only k t) (only_codes k t (g.met.C.Coder.codes c.args.coder.now)) bs c.args.list.now after _ (omega arith) right }
