use Rattle.mdr_runs.proofs.Stand.{services_are_answered}
use Rattle.mdr_runs.proofs.laws.services_are_answered.Goals as goal

pub returns : goal.returns
returns c = services_are_answered
