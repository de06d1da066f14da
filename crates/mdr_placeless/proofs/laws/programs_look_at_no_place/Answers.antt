use Rattle.mdr_placeless.proofs.Programs.{programs_alike}
use Rattle.mdr_placeless.proofs.laws.programs_look_at_no_place.Goals as goal

pub returns : goal.returns
returns c = programs_alike
