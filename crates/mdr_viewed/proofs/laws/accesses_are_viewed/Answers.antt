use Rattle.mdr_viewed.proofs.Steps.{accesses_are_viewed}
use Rattle.mdr_viewed.proofs.laws.accesses_are_viewed.Goals as goal

pub returns : goal.returns
returns c = accesses_are_viewed
