use Rattle.mdr_exec.specs.Holding.{held_of}
use Rattle.mdr_exec.proofs.BeginningLaws.{block_entered}
use Rattle.mdr_exec.proofs.begin.begin_block.Goals as goal

pub returns : goal.returns
returns c = λ program side body is. block_entered program c.args.machine.now (held_of program c.enter.new.machine) c.requires.runs (c.in_ok-enter.ensures.held program) side body is
