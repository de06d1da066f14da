use Rattle.mdr_watch.proofs.Guards.{left_all}
use Rattle.mdr_watch.proofs.guarded.Guarded.leave.Goals as goal

pub returns : goal.returns
returns c = left_all c.self.inside.world.program c.self.inside.sets.inner c.self.inside.sets.outer c.self.inside.world.world c.args.self c.self.view_is c.leave_user.new.self c.leave_user.ensures
