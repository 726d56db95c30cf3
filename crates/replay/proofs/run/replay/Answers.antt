use Rattle.std.proofs.Common.{◌≡◌, ◌+◌, ◌<◌, ◌≤◌, length, get_or, take, drop, set, sym, refl, ap, ◌∙◌, subst, inl, inr, arith}
use Rattle.std.proofs.lemmas.List.{set-get_or}
use Rattle.outline.proofs.Kept.{rules_of}
use Rattle.replay.proofs.Amply.{best_run}
use Rattle.replay.proofs.Steps.{run_more, run_ended, kept_more, kept_ended}
use Rattle.replay.proofs.Tracing.{as_traced}
use Rattle.replay.specs.Right.{Right, tools, state}
use Rattle.replay.specs.Runs.{noted, SameLengths, Run}
use Rattle.replay.specs.Runs.Run.{done}
use Rattle.replay.proofs.run.replay.Goals as goal

pub loop-i-init : goal.loop-i-init
loop-i-init g c = (omega arith, done (rules_of c.args.outline.now), refl)

pub loop-i-preserved : goal.loop-i-preserved
loop-i-preserved g c =
    let t = tools g.W.Cost.Cost.cost (g.W.Weigher.weight c.args.weigher.now) (g.C.Coder.table c.args.coder.now) (g.M.Measure.strays c.args.measure.now) in
    let i = c.loop-i.i in
    let cs = c.args.calls.now in
    let es = c.loop-i.entries in
    let a = c.make_call-answer.result in
    let call = c.in-Some.call.now in
    let s = state c.args.outline.now c.args.rows.now c.args.priced.now c.args.straying.now c.args.list.now in
    let before = state c.loop-i.outline c.loop-i.rows c.loop-i.priced c.loop-i.straying c.loop-i.list in
    let u = state c.make_call-answer.new.outline c.make_call-answer.new.rows c.make_call-answer.new.priced c.make_call-answer.new.straying c.make_call-answer.new.list in
    let lengths : SameLengths before u = record { rows = c.make_call-answer.auto.rows; priced = c.make_call-answer.auto.priced; straying = c.make_call-answer.auto.straying; list = c.make_call-answer.auto.list } in
    let found = c.in-Some.ensures.lookup in
    let here : i < length cs = found.3.0 in
    let left : i < length es = omega arith in (
      omega arith,
      subst (λ e. Run t s (take (i + 1) cs) (take (i + 1) (set es i e)) u) (sym c.of.ensures)
          (run_more t s before u cs es i call a here left c.loop-i.invariant.1 (subst (λ x. Right t before x a u) found.1 c.make_call-answer.ensures) lengths (rules_of c.make_call-answer.new.outline)),
      ap (λ e. drop (i + 1) (set es i e)) c.of.ensures ∙ kept_more c.args.entries.now es i (noted a u.list) c.loop-i.invariant.2,
    )

pub returns-after-loop-i : goal.returns-after-loop-i
returns-after-loop-i g c =
    let t = tools g.W.Cost.Cost.cost (g.W.Weigher.weight c.args.weigher.now) (g.C.Coder.table c.args.coder.now) (g.M.Measure.strays c.args.measure.now) in
    let cs = c.args.calls.now in
    let old = c.args.entries.now in
    let es = c.loop-i.entries in
    let full : length old ≤ c.loop-i.i = omega arith in
    let run = run_ended t _ _ cs es c.loop-i.i (length old) c.loop-i.auto.entries (omega arith) (omega arith) (inr full) c.loop-i.invariant.1 in
    record {
      run = run;
      best = λ ample. best_run t ample run;
      traced = as_traced t run;
      further = kept_ended old es c.loop-i.i (length cs) c.loop-i.auto.entries (omega arith) (inr full) c.loop-i.invariant.2;
      rules = rules_of c.loop-i.outline;
    }

-- where no call is left the entry is as it was
pub returns-in_default : goal.returns-in_default
returns-in_default g c =
    let t = tools g.W.Cost.Cost.cost (g.W.Weigher.weight c.args.weigher.now) (g.C.Coder.table c.args.coder.now) (g.M.Measure.strays c.args.measure.now) in
    let i = c.loop-i.i in
    let cs = c.args.calls.now in
    let old = c.args.entries.now in
    let es = set c.loop-i.entries i (get_or c.loop-i.entries i c.index-entries-i.result) in
    let same : es ≡ c.loop-i.entries = set-get_or c.loop-i.entries i c.index-entries-i.result in
    let s = state c.args.outline.now c.args.rows.now c.args.priced.now c.args.straying.now c.args.list.now in
    let u = state c.loop-i.outline c.loop-i.rows c.loop-i.priced c.loop-i.straying c.loop-i.list in
    let long : length es ≡ length old = ap length same ∙ c.loop-i.auto.entries in
    let done : length cs ≤ i = c.in_default.ensures.lookup.3 in
    let run = run_ended t s u cs es i (length old) long (omega arith) (omega arith) (inl done) (subst (λ xs. Run t s (take i cs) (take i xs) u) (sym same) c.loop-i.invariant.1) in
    record {
      run = run;
      best = λ ample. best_run t ample run;
      traced = as_traced t run;
      further = kept_ended old es i (length cs) long (omega arith) (inl done) (ap (drop i) same ∙ c.loop-i.invariant.2);
      rules = rules_of c.loop-i.outline;
    }
