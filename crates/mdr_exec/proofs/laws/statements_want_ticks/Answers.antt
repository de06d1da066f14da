use Rattle.mdr_exec.proofs.RunningLaws.{statements_want_ticks}
use Rattle.mdr_exec.proofs.laws.statements_want_ticks.Goals as goal

pub returns : goal.returns
returns c = statements_want_ticks
