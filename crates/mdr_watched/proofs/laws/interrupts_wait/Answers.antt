use Rattle.mdr_watched.proofs.WaitLaws.{interrupts_wait}
use Rattle.mdr_watched.proofs.laws.interrupts_wait.Goals as goal

pub returns : goal.returns
returns c = interrupts_wait
