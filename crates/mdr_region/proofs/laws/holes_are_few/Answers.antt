use Rattle.mdr_region.proofs.BlockLaws.{fewer_holes}
use Rattle.mdr_region.proofs.laws.holes_are_few.Goals as goal

pub returns : goal.returns
returns c = fewer_holes
