use Rattle.mdr_exec.proofs.RunningLaws.{questions_are_answered}
use Rattle.mdr_exec.proofs.laws.questions_are_answered.Goals as goal

pub returns : goal.returns
returns c = questions_are_answered
