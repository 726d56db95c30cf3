use Rattle.closest.proofs.task.Task.fill_at.Goals as goal

pub returns-clause-rule : goal.returns-clause-rule
returns-clause-rule g c = let p = c.within-weigher.ensures in simp (p.0, p.1, p.2) at c.fill_rows.ensures.rule
