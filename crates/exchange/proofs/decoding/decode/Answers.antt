use Rattle.std.proofs.Common.{sym, subst}
use Rattle.records.specs.Reading.{Accepted, all_kinds}
use Rattle.tracing.proofs.Chains.{front_read}
use Rattle.exchange.proofs.decoding.decode.Goals as goal

pub returns : goal.returns
returns c =
    let r = c.in_ok-reading.ensures.right in
    let reading = c.in_ok-reading.reading in
    let front = front_read c.read.new.list r.0 _ reading.vertices r.3 r.2 in
    (reading.bytes, subst (λ vs. Accepted all_kinds c.args.bytes.now reading.kind vs reading.bytes) (sym front) r.1)
