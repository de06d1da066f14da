use Rattle.mdr_kept.proofs.WorkedProofs.{tells_calls_back}
use Rattle.mdr_kept.proofs.worked.calls_back_are_told_apart.Goals as goal

pub returns : goal.returns
returns c = tells_calls_back
