use Rattle.mdr_kept.proofs.WorkedProofs.{dead_results_are_alike}
use Rattle.mdr_kept.proofs.worked.dead_results_are_alike.Goals as goal

pub returns : goal.returns
returns c = dead_results_are_alike
