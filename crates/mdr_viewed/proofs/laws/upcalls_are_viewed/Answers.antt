use Rattle.mdr_viewed.proofs.Upcalls.{upcalls_are_viewed}
use Rattle.mdr_viewed.proofs.laws.upcalls_are_viewed.Goals as goal

pub returns : goal.returns
returns c = upcalls_are_viewed
