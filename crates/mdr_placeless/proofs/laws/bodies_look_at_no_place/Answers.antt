use Rattle.mdr_placeless.proofs.Programs.{bodies_alike}
use Rattle.mdr_placeless.proofs.laws.bodies_look_at_no_place.Goals as goal

pub returns : goal.returns
returns c = bodies_alike
