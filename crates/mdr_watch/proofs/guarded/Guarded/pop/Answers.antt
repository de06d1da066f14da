use Rattle.mdr_watch.proofs.Guards.{popped, some_outside}
use Rattle.mdr_watch.proofs.guarded.Guarded.pop.Goals as goal

pub pop_set-requires : goal.pop_set-requires
pop_set-requires c = (c.requires.0, some_outside c.self.inside.world.program c.self.inside.sets.inner c.self.inside.sets.outer c.self.inside.world.world c.args.self.now c.self.view_is c.requires.0 c.requires.1)

pub returns : goal.returns
returns c = popped c.self.inside.world.program c.self.inside.sets.inner c.self.inside.sets.outer c.self.inside.world.world c.args.self.now c.self.view_is _ c.pop_set.ensures
