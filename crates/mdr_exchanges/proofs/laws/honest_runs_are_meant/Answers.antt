use Rattle.mdr_exchanges.proofs.Meant as meant
use Rattle.mdr_exchanges.proofs.laws.honest_runs_are_meant.Goals as goal

pub returns : goal.returns
returns c = meant.honest_runs_are_meant
