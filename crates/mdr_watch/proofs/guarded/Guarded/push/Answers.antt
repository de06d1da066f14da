use Rattle.mdr_watch.specs.Guarding.{sets_of}
use Rattle.mdr_watch.proofs.Guards.{over_is}
use Rattle.mdr_watch.proofs.guarded.Guarded.push.Goals as goal

pub returns-in-Ok : goal.returns-in-Ok
returns-in-Ok c =
    over_is c.self.inside.world.program c.self.inside.sets.inner c.self.inside.sets.outer c.self.inside.world.world c.args.self.now c.self.view_is c.args.set (sets_of c.push_set.new.sets) c.in-Ok.ensures c.requires.live
