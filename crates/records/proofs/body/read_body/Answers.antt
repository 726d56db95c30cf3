use Rattle.std.proofs.Common.{◌≡◌, ◌+◌, ◌-◌, ◌<◌, ◌∷◌, ◌++◌, length, take, drop, replicate, ap, ◌∙◌, ap₂, arith, rules, length-drop, length-take}
use lib.ListN.{length-replicate}
use Rattle.records.specs.declared.fault.Fault.{Fault}
use Rattle.records.proofs.Bodies.{all_spelled, padded, post_front, start_and_places}
use Rattle.records.proofs.Traversal.{mapped_ok}
use Rattle.records.proofs.body.read_body.Goals as goal

pub returns : goal.returns
returns g c =
    let t = g.C.Coder.table c.args.coder.now in
    let h = c.args.head in
    let bit = c.in_ok-bit.bit in
    let few : h.edges < 256 = search rules in
    let places = c.read_edges.new.places in
    let all : length (take (h.edges + 1 - 1) (drop 1 (replicate 256 h.start))) ≡ h.edges = simp (length-take, length-drop, length-replicate) (omega arith) in
    let long : length places ≡ h.edges = omega (arith, c.read_edges.auto.places, all) in
    let ok = mapped_ok Fault c.padding.result c.in_ok-map_err.field-0 c.in_ok-map_err.ensures.cases in (
      h.start ∷ places,
      bit,
      all_spelled t _ _ h.start h.edges _ places bit c.new-row.ensures all long c.in_ok-bit.ensures,
      padded c.padding.result c.in_ok-map_err.field-0 _ _ (c.skip.ensures ∙ ap (drop bit) c.new-row.ensures) ok c.padding.ensures,
      (omega arith, omega arith),
      omega arith,
      ap₂ (λ a b. a ++ b) (c.copy_from_slice.ensures.after ∙ start_and_places h.start h.edges places few long) (post_front (h.edges + 1) c.args.list.now),
    )
