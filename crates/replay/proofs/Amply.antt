-- A run with ample rows and list places is a best run.
use Rattle.std.proofs.Common.{◌≡◌, ◌≤◌, List, [], length, subst, arith}
use Rattle.measure.specs.Fractions.{fraction}
use Rattle.outline.specs.Runs.{after}
use Rattle.replay.proofs.Shown.{best_shown, finest_shown, cheapest_shown, closest_shown}
use Rattle.replay.specs.Ample.{Ample, BestSaid, BestRun}
use Rattle.replay.specs.Ample.BestRun.{done as best_done, step as best_step}
use Rattle.replay.specs.Right.{Tools, State, Right}
use Rattle.replay.specs.Runs.{front, SameLengths, Run}
use Rattle.replay.specs.Runs.Run.{done, step}
use Rattle.replay.specs.Traced.{traced_call}
use Rattle.replay.specs.declared.answer.Answer.{Answer}
use Rattle.replay.specs.declared.call.Call.{Call}
use Rattle.replay.specs.declared.call.Call.TheVariants.{Open, Extend, Retract, Least, Cheapest, Finest, Closest}
use Rattle.replay.specs.declared.entry.Entry.{Entry}
use Rattle.search.specs.Cheapest.{finest_found}
use Rattle.weighing.specs.Deviations.{deviation_cost}
use Rattle.weighing.specs.Weighers.{straying_weight}

module _ {C W : Type 0} (t : Tools C W) where
  said : (s u : State C) (c : Call) (a : Answer C) → Ample s → 256 ≤ length u.list → length s.outline.points ≤ 256 → Right t s c a u → BestSaid t s.outline c a (front u.list)
  said s u (Open width height col row) a m k l r = r.said
  said s u (Extend direction) a m k l r = r.said
  said s u Retract a m k l r = r.said
  said s u Least a m k l r = (r.0, r.1, best_shown u.list k t.cost (t.weight s.outline.points) (length s.outline.points) r.0 l (r.2.best (omega arith, omega arith)))
  said s u (Cheapest top bottom) a m k l r = (r.0, r.1, cheapest_shown u.list k t.codes t.strays (fraction top bottom) s.outline.points r.0 l (r.2.best (omega arith, omega arith)))
  said s u Finest a m k l r =
      let b = r.2.best (omega arith, omega arith) in (
        r.0,
        r.1,
        best_shown u.list k deviation_cost (straying_weight t.codes t.strays s.outline.points) (length s.outline.points) (finest_found r.0) l b.0,
        finest_shown u.list k t.codes t.strays s.outline.points r.0 l b.0 b.1,
      )
  said s u (Closest budget) a m k l r = (r.0, r.1, closest_shown u.list k t.codes t.strays budget s.outline.points r.0 l (r.2.best (omega arith, omega arith)))

  left : (s u : State C) (c : Call) (a : Answer C) → Right t s c a u → u.outline ≡ after s.outline (traced_call c [])
  left s u (Open width height col row) a r = r.outline
  left s u (Extend direction) a r = r.outline
  left s u Retract a r = r.outline
  left s u Least a r = r.2.outline
  left s u (Cheapest top bottom) a r = r.2.outline
  left s u Finest a r = r.2.outline
  left s u (Closest budget) a r = r.2.outline

  still : (s u : State C) → Ample s → SameLengths s u → Ample u
  still s u m k = record { rows = omega arith; priced = omega arith; straying = omega arith; list = omega arith }

  pub best_run : {s v : State C} {cs : List Call} {es : List (Entry C)} → Ample s → Run t s cs es v → BestRun t s.outline cs es
  best_run m (done o) = best_done
  best_run m (step {s} {u} {v} {c} {a} {cs} {es} o n k r) =
      let m' = still s u m k in
      best_step (said s u c a m m'.list o.count.1 n) (subst (λ p. BestRun t p cs es) (left s u c a n) (best_run m' r))
