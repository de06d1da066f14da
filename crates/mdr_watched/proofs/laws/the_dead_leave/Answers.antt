use Rattle.mdr_watched.proofs.WaitLaws.{the_dead_leave}
use Rattle.mdr_watched.proofs.laws.the_dead_leave.Goals as goal

pub returns : goal.returns
returns c = the_dead_leave
