use Rattle.mdr_world.proofs.RunLaws.{ticked}
use Rattle.mdr_world.proofs.world.World.tick.Goals as goal

pub returns : goal.returns
returns c = ticked _ c.args.self.now c.self.view_is c.advance.new.self c.if-self-eq0.false c.advance.ensures
