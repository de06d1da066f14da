use Rattle.mdr_kept.proofs.WorkedProofs.{tells_locks}
use Rattle.mdr_kept.proofs.worked.locks_are_told_apart.Goals as goal

pub returns : goal.returns
returns c = tells_locks
