use Rattle.mdr_meaning.specs.Sides.{Ends}
use Rattle.mdr_exec.proofs.LeavingLaws.{held_behind, still_running}
use Rattle.mdr_exec.proofs.leave.go_on.Goals as goal

pub returns : goal.returns
returns c = held_behind c.args.machine.now c.args.machine.now.front Ends c.args.next c.args.machine.now.top.born (λ program frame. still_running program frame c.args.machine.now.front c.requires.runs)
