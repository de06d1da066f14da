use Rattle.mdr_top.proofs.split_running.outcome_over.Goals as goal

pub returns-clause-done : goal.returns-clause-done
returns-clause-done g c = c.in_ok-outcome.ensures.done.outcome
