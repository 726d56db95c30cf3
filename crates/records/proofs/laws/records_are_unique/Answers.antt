use Rattle.records.specs.Reading.{only}
use Rattle.records.proofs.Exact.{written_once, apart_records, apart_kinds, only_codes}
use Rattle.records.proofs.Prices.{edge_bits_are_codes}
use Rattle.records.proofs.Summed.{bits_are_codes}
use Rattle.records.proofs.laws.records_are_unique.Goals as goal

pub returns : goal.returns
returns g c =
    record {
      one = λ s kind. written_once (only kind (g.C.Coder.table s));
      apart = λ s. apart_records (g.C.Coder.table s) (g.met.C.Coder.codes s);
      bits = λ s. bits_are_codes (g.C.Coder.table s);
      kinds = λ s kind. apart_kinds (only kind (g.C.Coder.table s)) (only_codes kind (g.C.Coder.table s) (g.met.C.Coder.codes s));
      edges = λ s. edge_bits_are_codes (g.C.Coder.table s);
    }
