use Rattle.mdr_meaning.proofs.WorkedProofs.{overflows, divides}
use Rattle.mdr_meaning.proofs.worked.operators_work.Goals as goal

pub returns : goal.returns
returns c = record { sums = overflows; quotients = divides }
