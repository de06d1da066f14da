use Rattle.mdr_watch.proofs.Guards.{one_over}
use Rattle.mdr_watch.proofs.guarded.sets_over.Goals as goal

pub returns-in-Ok : goal.returns-in-Ok
returns-in-Ok c = one_over c.args.set c.args.sets.inner c.args.sets.outer c.push.new.self c.in-Ok.ensures.ok
