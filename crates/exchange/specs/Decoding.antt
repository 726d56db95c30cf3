-- What decode answers.
use Rattle.std.specs.Prelude.{ℕ, List, take, Ok, Err, Result}
use Rattle.records.specs.Reading.{Accepted, Refused, all_kinds}
use Rattle.exchange.specs.declared.decoded.Decoded.{Decoded}
use Rattle.exchange.specs.declared.failure.Failure.{Failure}
use Rattle.exchange.specs.declared.failure.Failure.TheVariants.{Record as AtRecord, Refused as ByRefusal}

-- The kind and the vertices of the record that bytes begin with, or its fault.
abbrev pub Decodes : List ℕ → Result Decoded Failure → Type 0
Decodes bs (Ok d) = (taken : ℕ) × Accepted all_kinds bs d.kind (take d.vertices d.points) taken
Decodes bs (Err (AtRecord fault)) = Refused all_kinds bs 256 fault
Decodes bs (Err (ByRefusal e)) = ⊥
