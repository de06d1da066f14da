use Rattle.mdr_track.proofs.PointerLaws.{return}
use Rattle.mdr_track.proofs.laws.pointers_return.Goals as goal

pub returns : goal.returns
returns c = return
