use Rattle.mdr_viewed.proofs.Steps.{services_are_viewed}
use Rattle.mdr_viewed.proofs.laws.services_are_viewed.Goals as goal

pub returns : goal.returns
returns c = services_are_viewed
