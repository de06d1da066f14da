use Rattle.mdr_holds.proofs.Scripts.{commands_leave}
use Rattle.mdr_holds.proofs.laws.commands_leave.Goals as goal

pub returns : goal.returns
returns c = commands_leave
