use Rattle.std.proofs.Common.{◌-◌, ◌≡◌, ◌≤◌, List, [], ◌∷◌, ◌++◌, length, get_or, Some, sym, subst, arith, rules}
use Rattle.outline.specs.declared.point.Point.{Point}
use Rattle.outline.specs.Moves.{move, moved}
use Rattle.std.proofs.lemmas.List.{length_push}
use Rattle.outline.specs.Directions.{direction_number}
use Rattle.outline.specs.Held.{held, origin, Framed, Traced}
use Rattle.outline.proofs.Kept.{framed_push, traced_push, displaced_inside, number_small}
use Rattle.outline.proofs.outline.Outline.extend.Goals as goal

pub invariant_of-self : goal.invariant_of-self
invariant_of-self c =
    let o = c.args.self.now in
    let ps = held o.points in
    let more = c.push.ensures in
    let q = c.in_ok-next.next in
    let n = length_push ps q in
    let last = c.last-last.ensures in
    let d = direction_number c.in_ok-direction.direction in
    let there : c.moved.result ≡ Some q = search rules in
    let step : moved o.width o.height (get_or ps (length ps - 1) origin) d ≡ Some q = cc in
    let to : (P : List Point → Type 0) → P (ps ++ q ∷ []) → P (held c.push.new.self) = λ P. subst P (sym more) in
    record {
      wide = o.wide;
      narrow = o.narrow;
      tall = o.tall;
      low = o.low;
      some = to (λ xs. 1 ≤ length xs) (omega arith);
      framed = to (Framed o.width o.height) (framed_push o.width o.height ps q o.framed (displaced_inside o.width o.height (get_or ps (length ps - 1) origin) (move d).0 (move d).1 q step));
      traced = to (Traced o.width o.height) (traced_push o.width o.height ps q d o.traced o.some (number_small c.in_ok-direction.direction) step);
    }
