use Rattle.mdr_exec.specs.Holding.{flow_as}
use Rattle.mdr_exec.proofs.LeavingLaws.{held_behind}
use Rattle.mdr_exec.proofs.leave.go_past.Goals as goal

pub returns : goal.returns
returns c = held_behind c.args.machine.now c.front_after.result (flow_as c.args.flow) c.args.next c.args.machine.now.top.born c.front_after.ensures
