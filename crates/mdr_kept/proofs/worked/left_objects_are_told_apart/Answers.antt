use Rattle.mdr_kept.proofs.WorkedProofs.{tells_left_objects}
use Rattle.mdr_kept.proofs.worked.left_objects_are_told_apart.Goals as goal

pub returns : goal.returns
returns c = tells_left_objects
