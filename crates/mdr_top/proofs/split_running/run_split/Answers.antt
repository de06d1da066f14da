use Rattle.mdr_top.proofs.split_running.run_split.Goals as goal

pub returns-clause-done : goal.returns-clause-done
returns-clause-done g c = c.in_ok-due.ensures.done.run
