use Rattle.mdr_region.proofs.BlockLaws.{never_overlap}
use Rattle.mdr_region.proofs.laws.none_overlap.Goals as goal

pub returns : goal.returns
returns c = never_overlap
