use Rattle.mdr_extents.proofs.SearchLaws.{extents_are_inside}
use Rattle.mdr_extents.proofs.laws.extents_are_inside.Goals as goal

pub returns : goal.returns
returns c = extents_are_inside
