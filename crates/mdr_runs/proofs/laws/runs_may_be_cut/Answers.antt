use Rattle.mdr_runs.proofs.Stand.{runs_may_be_cut}
use Rattle.mdr_runs.proofs.laws.runs_may_be_cut.Goals as goal

pub returns : goal.returns
returns c = runs_may_be_cut
