use Rattle.std.proofs.Common.{ℤ, ap, ap₂, ◌∙◌}
use Rattle.measure.specs.Distances.{cols, rows, squared_length}
use Rattle.measure.specs.Bounds.{lag_is}
use Rattle.measure.proofs.waypoint.Waypoint.square_lag.Goals as goal

pub returns : goal.returns
returns c =
    let w = c.args.self in
    let v = c.offset-v_right in
    let p = c.offset-p_right in
    c.square_length.ensures
    ∙ ap₂ squared_length
    (lag_is w.moves w.made p.result.0 v.result.0 _ (cols w.from w.at) (cols w.from w.to) w.few w.fewer (ap (λ (o : ℤ × ℤ). o.0) p.ensures) (ap (λ (o : ℤ × ℤ). o.0) v.ensures) w.near.0 w.far.0 c.products_apart.ensures)
    (lag_is w.moves w.made p.result.1 v.result.1 _ (rows w.from w.at) (rows w.from w.to) w.few w.fewer (ap (λ (o : ℤ × ℤ). o.1) p.ensures) (ap (λ (o : ℤ × ℤ). o.1) v.ensures) w.near.1 w.far.1 c.products_apart-2.ensures)
