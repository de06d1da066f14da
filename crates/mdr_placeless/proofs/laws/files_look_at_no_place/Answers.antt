use Rattle.mdr_placeless.proofs.Programs.{pieces_alike}
use Rattle.mdr_placeless.proofs.laws.files_look_at_no_place.Goals as goal

pub returns : goal.returns
returns c = pieces_alike
