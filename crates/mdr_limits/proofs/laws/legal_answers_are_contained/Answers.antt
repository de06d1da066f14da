use Rattle.mdr_limits.proofs.Contained.{legal_is_contained}
use Rattle.mdr_limits.proofs.laws.legal_answers_are_contained.Goals as goal

pub returns : goal.returns
returns c = legal_is_contained
