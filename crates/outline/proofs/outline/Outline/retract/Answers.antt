use Rattle.std.proofs.Common.{◌-◌, ◌≤◌, List, length, take, sym, subst, arith, length-take}
use Rattle.outline.specs.declared.point.Point.{Point}
use Rattle.outline.specs.Held.{held, Framed, Traced}
use Rattle.outline.proofs.Kept.{framed_take, traced_take}
use Rattle.outline.proofs.outline.Outline.retract.Goals as goal

pub invariant_of-self : goal.invariant_of-self
invariant_of-self c =
    let o = c.args.self.now in
    let ps = held o.points in
    let less = c.pop.ensures in
    let m = length-take (length ps - 1) ps in
    let to : (P : List Point → Type 0) → P (take (length ps - 1) ps) → P (held c.pop.new.self) = λ P. subst P (sym less) in
    record {
      wide = o.wide;
      narrow = o.narrow;
      tall = o.tall;
      low = o.low;
      some = to (λ xs. 1 ≤ length xs) (omega arith);
      framed = to (Framed o.width o.height) (framed_take o.width o.height ps _ o.framed);
      traced = to (Traced o.width o.height) (traced_take o.width o.height ps _ o.traced);
    }
