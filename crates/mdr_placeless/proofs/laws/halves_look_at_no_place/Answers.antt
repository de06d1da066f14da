use Rattle.mdr_placeless.proofs.Programs.{halves_alike}
use Rattle.mdr_placeless.proofs.laws.halves_look_at_no_place.Goals as goal

pub returns : goal.returns
returns c = halves_alike
