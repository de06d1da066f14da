use Rattle.std.proofs.Common.{◌+◌, refl}
use Rattle.mdr_exec.proofs.MakingLaws.{waits_here}
use Rattle.mdr_exec.proofs.call.await_value.Goals as goal

pub returns : goal.returns
returns c = λ program. waits_here program c.args.machine.now (c.args.machine.now.top.next + 1) refl
