use Rattle.records.specs.Reading.{all_kinds}
use Rattle.records.proofs.Exact.{written_once, apart_kinds}
use Rattle.records.proofs.Known.{kinds_codes}
use Rattle.records.proofs.laws.kinds_are_unique.Goals as goal

pub returns : goal.returns
returns c = record { one = written_once all_kinds; apart = apart_kinds all_kinds kinds_codes }
