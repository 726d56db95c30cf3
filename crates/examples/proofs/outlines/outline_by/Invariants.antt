use Rattle.std.proofs.Common.{◌≡◌, ◌∷◌, map, drop}
use Rattle.outline.specs.Plain.{plain, new_plain}
use Rattle.outline.specs.Runs.{after}
use Rattle.outline.specs.declared.call.Call.TheVariants.{Open, Extend}
use Rattle.examples.proofs.outlines.outline_by.Given as goal

abbrev pub invariant-loop-direction : goal.invariant-loop-direction
invariant-loop-direction l = after (plain l.outline) (map Extend (drop l.direction-index l.directions)) ≡ after new_plain (Open 32 32 5 5 ∷ map Extend l.directions)
