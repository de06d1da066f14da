use Rattle.mdr_plan.proofs.Once.{bytes_are}
use Rattle.mdr_plan.proofs.laws.pointer_types_have_their_texts.Goals as goal

pub returns : goal.returns
returns c = bytes_are
