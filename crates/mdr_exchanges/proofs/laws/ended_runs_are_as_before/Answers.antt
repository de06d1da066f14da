use Rattle.mdr_exchanges.proofs.Endings.{as_before}
use Rattle.mdr_exchanges.proofs.laws.ended_runs_are_as_before.Goals as goal

pub returns : goal.returns
returns c = as_before
