use Rattle.std.proofs.Common.{◌≡◌, ◌+◌, ◌-◌, ◌^◌, ◌<◌, length, take, drop, sym, refl, ◌∙◌, subst, arith, length-set}
use Rattle.std.proofs.lemmas.List.{take_all, drop_all}
use Rattle.std.proofs.lemmas.Option.{slice_get_read}
use Rattle.graph.proofs.Chains.{read_back_inside, write_more}
use Rattle.graph.specs.Paths.{ReadBack}
use Rattle.graph.proofs.back.write_back.Goals as goal

pub loop-k-init : goal.loop-k-init
loop-k-init g c =
    let list = c.args.list.now in
    let vs = c.requires.long.0 in
    let long : length vs ≡ length list = c.requires.long.2 in (
      vs,
      c.requires.long.1,
      long,
      (λ _. (c.requires.small, subst (ReadBack c.args.rows.now c.args.to) (sym (take_all (length list) vs (omega arith))) c.requires.long.1)),
      drop_all (length list) list (omega arith) ∙ sym (drop_all (length list) vs (omega arith)),
    )

pub bounds-rows-at : goal.bounds-rows-at
bounds-rows-at g c = read_back_inside (c.loop-k.invariant.3 c.loop-k-test.true).1

pub offset_bounds-rows-at : goal.offset_bounds-rows-at
offset_bounds-rows-at g c = omega (arith, read_back_inside (c.loop-k.invariant.3 c.loop-k-test.true).1)

pub loop-k-preserved : goal.loop-k-preserved
loop-k-preserved g c =
    let rows = c.args.rows.now in
    let list = c.loop-k.list in
    let at = c.loop-k.at in
    let k = c.loop-k.k in
    let row = c.index-rows-at.result in
    let vs = c.loop-k.invariant.0 in
    let long : length vs ≡ length list = c.loop-k.invariant.2 in
    let near = c.loop-k.invariant.3 c.loop-k-test.true in
    let small : at < 2 ^ 16 = near.0 in
    let inside = read_back_inside near.1 in
    let one : k ≡ (k - 1) + 1 = omega arith in
    let here = slice_get_read rows (length rows) at row refl inside c.index-rows-at.is in
    let more = write_more row vs list (k - 1) here (subst (λ n. ReadBack rows at (take n vs)) one near.1) (omega arith) (omega arith) (subst (λ n. drop n list ≡ drop n vs) one c.loop-k.invariant.4) in (
      vs,
      c.loop-k.invariant.1,
      simp length-set long,
      (λ some. let next = more.0 some in let low = next.0 in
          (omega (arith, c.from-at.ensures), subst (λ p. ReadBack rows p (take (k - 1) vs)) (sym c.from-at.ensures) next.1)),
      more.1,
    )
