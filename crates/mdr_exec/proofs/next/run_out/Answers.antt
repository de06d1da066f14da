use Rattle.mdr_exec.proofs.NextLaws.{ran_out}
use Rattle.mdr_exec.proofs.next.run_out.Goals as goal

pub returns : goal.returns
returns c = ran_out c.args.machine.now c.requires.runs
