use Rattle.mdr_exec.specs.Holding.{held_of}
use Rattle.mdr_exec.specs.Receiving.{goal_as}
use Rattle.mdr_exec.proofs.KeepingLaws.{value_kept}
use Rattle.mdr_exec.proofs.keep.keep.Goals as goal

pub returns : goal.returns
returns g c =
    value_kept g.C.Memory.accesses c.args.program.now c.args.machine.now c.args.value c.args.memory.now c.keep_as.new.memory c.number_behind.result (goal_as c.goal_behind-goal.result) c.keep_as.result c.stopped.result
    (held_of c.args.program.now c.keep_as.new.machine) c.requires.comes c.number_behind.ensures c.goal_behind-goal.ensures c.stopped.ensures c.keep_as.ensures
