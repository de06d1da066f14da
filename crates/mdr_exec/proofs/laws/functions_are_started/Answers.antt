use Rattle.mdr_exec.proofs.RunningLaws.{functions_are_started}
use Rattle.mdr_exec.proofs.laws.functions_are_started.Goals as goal

pub returns : goal.returns
returns c = functions_are_started
