use Rattle.mdr_meaning.proofs.FewLaws.{questions_are_few}
use Rattle.mdr_meaning.proofs.laws.questions_are_few.Goals as goal

pub returns : goal.returns
returns c = questions_are_few
