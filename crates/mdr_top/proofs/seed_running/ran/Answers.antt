use Rattle.mdr_top.proofs.Steps.{fault_so}
use Rattle.mdr_top.proofs.SeedSteps.{generated_so, told_status}
use Rattle.mdr_top.proofs.seed_running.ran.Goals as goal

pub returns-clause-done : goal.returns-clause-done
returns-clause-done g c = generated_so c.args.recipe c.args.source.now c.args.script.now _ _ c.in_ok-outcome.outcome c.exchanges.result.now _ _ c.in_ok-outcome.ensures.done c.exchanges.ensures c.in_ok-due.ensures

pub returns-clause-failed : goal.returns-clause-failed
returns-clause-failed g c = λ is. fault_so _ c.in_ok-outcome.outcome.end _ c.in_ok-outcome.ensures.failed (told_status _ _ _ _ _ _ c.in_ok-due.ensures) is
