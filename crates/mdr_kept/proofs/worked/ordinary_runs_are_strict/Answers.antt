use Rattle.mdr_kept.proofs.WorkedProofs.{are_strict}
use Rattle.mdr_kept.proofs.worked.ordinary_runs_are_strict.Goals as goal

pub returns : goal.returns
returns c = are_strict
