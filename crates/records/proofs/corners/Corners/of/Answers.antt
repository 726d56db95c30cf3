use Rattle.std.proofs.Common.{◌<◌, length, get_or, sym, refl, subst}
use Rattle.outline.specs.Plain.{plain}
use Rattle.records.specs.Reading.{AllInside}
use Rattle.records.proofs.Polygons.{list_few, points_inside, polygon_below}
use Rattle.records.proofs.corners.Corners.of.Goals as goal

pub invariant_of-result : goal.invariant_of-result
invariant_of-result c =
    let o = c.args.outline.now in
    let list = c.args.list.now in
    let ps = (plain o).points in
    let p = c.if-not-is_polygon.ensures.0 refl in
    record {
      inside = subst AllInside (sym c.points-points.ensures) (points_inside o);
      some = p.some;
      few = (list_few o list p).1;
      named = λ k l. subst (λ xs. get_or list k 0 < length xs) (sym c.points-points.ensures) (polygon_below (length ps) list p k l);
    }
