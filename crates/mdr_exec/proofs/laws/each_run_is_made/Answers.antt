use Rattle.mdr_exec.proofs.RunningLaws.{runs_are_made}
use Rattle.mdr_exec.proofs.laws.each_run_is_made.Goals as goal

pub returns : goal.returns
returns g c = λ a side h m ticks. runs_are_made a side h m ticks
