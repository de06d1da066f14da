use Rattle.mdr_watched.proofs.WaitLaws.{accesses_are_held}
use Rattle.mdr_watched.proofs.laws.accesses_are_held.Goals as goal

pub returns : goal.returns
returns c = accesses_are_held
