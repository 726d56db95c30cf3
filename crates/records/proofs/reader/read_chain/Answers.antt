use Rattle.std.proofs.Common.{subst}
use Rattle.coding.specs.Kinds.{by_direction, chain_code}
use Rattle.records.specs.Reading.{only, ReadExact}
use Rattle.records.proofs.reader.read_chain.Goals as goal

pub returns-clause-exact : goal.returns-clause-exact
returns-clause-exact c = subst (λ n. ReadExact (only n (by_direction chain_code)) c.args.bytes.now c.args.list.now c.read_kind.new.list c.read_kind.result) c.from.ensures c.read_kind.ensures.exact
