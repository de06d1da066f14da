use Rattle.mdr_placeless.proofs.Programs.{expressions_alike}
use Rattle.mdr_placeless.proofs.laws.expressions_look_at_no_place.Goals as goal

pub returns : goal.returns
returns c = expressions_alike
