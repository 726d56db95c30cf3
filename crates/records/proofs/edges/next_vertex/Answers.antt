use Rattle.std.proofs.Common.{◌≡◌, Some, sym, ◌∙◌, ap₂, w16, SFits, rules}
use Rattle.std.proofs.lemmas.Int.{to_z-of_z}
use Rattle.outline.specs.Moves.{displaced}
use Rattle.outline.proofs.Kept.{displaced_inside}
use Rattle.records.proofs.Spelling.{displaced_by}
use Rattle.records.proofs.edges.next_vertex.Goals as goal

pub returns : goal.returns
returns g c =
    let found = c.in-Some.ensures in
    let from = c.args.from in
    let dx = c.in-Some.dx in
    let dy = c.in-Some.dy in
    let v = c.in_ok-to.to in
    let fx : SFits w16 dx = search rules in
    let fy : SFits w16 dy = search rules in
    let to : displaced 1024 1024 from dx dy ≡ Some v = simp to_z-of_z at (sym c.displaced.ensures ∙ c.in_ok-to.ensures.ok_part) in
    let by = displaced_by 1024 1024 from dx dy v to in
    record {
      code = found.0;
      coded = ap₂ (g.C.Coder.table c.args.coder.now) by.0 by.1 ∙ found.1;
      begins = found.2;
      long = found.3;
      inside = displaced_inside 1024 1024 from dx dy v to;
    }
