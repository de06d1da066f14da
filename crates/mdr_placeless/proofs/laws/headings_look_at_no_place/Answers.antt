use Rattle.mdr_placeless.proofs.Programs.{headings_alike}
use Rattle.mdr_placeless.proofs.laws.headings_look_at_no_place.Goals as goal

pub returns : goal.returns
returns c = headings_alike
