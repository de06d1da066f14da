use Rattle.mdr_exec.proofs.LeavingLaws.{held_round}
use Rattle.mdr_exec.proofs.leave.go_round.Goals as goal

pub returns : goal.returns
returns c = held_round c.args.machine.now c.push.new.self c.args.next c.args.born c.new.result c.in_ok-push.ensures.ok c.new.ensures
