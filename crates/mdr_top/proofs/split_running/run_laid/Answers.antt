use Rattle.mdr_top.proofs.Steps.{fault_so, laid_reported, read_so}
use Rattle.mdr_top.proofs.split_running.run_laid.Goals as goal

pub returns-clause-done : goal.returns-clause-done
returns-clause-done g c = laid_reported _ _ _ _ _ c.in_ok-outcome.field-0.outcome _ _ _ c.in_ok-outcome.ensures.done c.in_ok-due.ensures

pub returns-clause-failed : goal.returns-clause-failed
returns-clause-failed g c = λ is. fault_so _ c.in_ok-outcome.field-0.outcome.end _ c.in_ok-outcome.ensures.failed c.in_ok-due.ensures.status_is is

pub returns-clause-read : goal.returns-clause-read
returns-clause-read g c = λ before after. read_so c.in_ok-outcome.field-0.outcome.end _ c.in_ok-due.ensures.status_is before after
