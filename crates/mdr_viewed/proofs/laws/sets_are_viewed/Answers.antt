use Rattle.mdr_viewed.proofs.Sets.{sets_are_viewed}
use Rattle.mdr_viewed.proofs.laws.sets_are_viewed.Goals as goal

pub returns : goal.returns
returns c = sets_are_viewed
