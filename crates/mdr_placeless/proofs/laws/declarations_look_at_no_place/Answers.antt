use Rattle.mdr_placeless.proofs.Programs.{declarations_alike}
use Rattle.mdr_placeless.proofs.laws.declarations_look_at_no_place.Goals as goal

pub returns : goal.returns
returns c = declarations_alike
