use Rattle.mdr_track.proofs.PointerLaws.{keep_names}
use Rattle.mdr_track.proofs.laws.steps_keep_names.Goals as goal

pub returns : goal.returns
returns c = keep_names
