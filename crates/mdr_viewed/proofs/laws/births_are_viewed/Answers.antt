use Rattle.mdr_viewed.proofs.Steps.{births_are_viewed}
use Rattle.mdr_viewed.proofs.laws.births_are_viewed.Goals as goal

pub returns : goal.returns
returns c = births_are_viewed
