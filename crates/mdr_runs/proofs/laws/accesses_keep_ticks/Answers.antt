use Rattle.mdr_runs.proofs.Around.{accesses_keep_ticks}
use Rattle.mdr_runs.proofs.laws.accesses_keep_ticks.Goals as goal

pub returns : goal.returns
returns c = accesses_keep_ticks
