use Rattle.mdr_runs.proofs.Stand.{calls_are_started}
use Rattle.mdr_runs.proofs.laws.calls_are_started.Goals as goal

pub returns : goal.returns
returns c = calls_are_started
