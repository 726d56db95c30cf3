use Rattle.std.proofs.Common.{◌≡◌, Some, None, sym, subst, arith, rules}
use Rattle.outline.specs.Directions.{direction_number}
use Rattle.coding.specs.Directions.{Leads, along}
use Rattle.outline.proofs.Kept.{number_small}
use Rattle.coding.specs.Straight.{along_leads, not_cols, not_rows, not_long, found}
use Rattle.coding.proofs.directions.direction.Goals as goal
use Rattle.coding.proofs.directions.direction.Goals.{then-length-eq0-via-then-length-eq0, then-length-eq0-via-else-length-eq0+then-cols-dx, then-length-eq0-via-else-length-eq0+else-cols-dx+then-rows-dy}

pub returns : goal.returns
returns c =
    let x = c.args.dx in
    let y = c.args.dy in
    let e : Some (direction_number c.heading-towards.result, c.max-length.result) ≡ along x y =
    found x y _ _ _ _ c.taken-cols.result c.ranges.dx c.ranges.dy c.taken-cols.ensures c.unsigned_abs.ensures.value c.unsigned_abs-2.ensures.value c.max-length.ensures
    c.heading-towards.ensures (number_small c.heading-towards.result) (omega (arith, c.if-length-eq0.false)) (search rules) (search rules) c.if-cols-dx.false c.if-rows-dy.false in
    record { value = e; rule = subst (Leads x y) (sym e) (along_leads x y) }

pub returns-then-length-eq0 : goal.returns-then-length-eq0
returns-then-length-eq0 c =
    let x = c.args.dx in
    let y = c.args.dy in
    let t = c.taken-cols.result in
    let e : None ≡ along x y =
    elim c.then-length-eq0.branch [
      | then-length-eq0-via-then-length-eq0 w ↦ not_long x y _ _ _ _ t c.ranges.dx c.ranges.dy c.taken-cols.ensures c.unsigned_abs.ensures.value c.unsigned_abs-2.ensures.value c.max-length.ensures c.heading-towards.ensures (omega (arith, w.if-length-eq0.true))
      | then-length-eq0-via-else-length-eq0+then-cols-dx w ↦ not_cols x y _ _ _ _ t c.ranges.dx c.ranges.dy c.taken-cols.ensures c.unsigned_abs.ensures.value c.unsigned_abs-2.ensures.value c.max-length.ensures c.heading-towards.ensures w.if-cols-dx.true
      | then-length-eq0-via-else-length-eq0+else-cols-dx+then-rows-dy w ↦ not_rows x y _ _ _ _ t c.ranges.dx c.ranges.dy c.taken-cols.ensures c.unsigned_abs.ensures.value c.unsigned_abs-2.ensures.value c.max-length.ensures c.heading-towards.ensures w.if-rows-dy.true
    ] in
    record { value = e; rule = subst (Leads x y) (sym e) (along_leads x y) }
