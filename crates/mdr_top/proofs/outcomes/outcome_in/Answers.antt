use Rattle.std.proofs.Common.{ap, length, ◌∙◌}
use Rattle.std.proofs.lemmas.Result.{IfOk-weaker}
use Rattle.mdr_top.specs.WholeRuns.IsOutcome.{watched_run}
use Rattle.mdr_top.proofs.outcomes.outcome_in.Goals as goal

pub run_watched-requires-clause-fit : goal.run_watched-requires-clause-fit
run_watched-requires-clause-fit c = ap length c.in_ok-plan.ensures.is_plan.halves_are ∙ c.in_ok-plan.ensures.are_halves.halves_size

pub returns-in_ok-plan : goal.returns-in_ok-plan
returns-in_ok-plan c = IfOk-weaker c.run_watched.result _ _ (λ o is. watched_run c.if-manner.true c.in_ok-plan.plan c.in_ok-plan.ensures is) c.run_watched.ensures
