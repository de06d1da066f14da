use Rattle.mdr_world.proofs.GlobalLaws.{placed_there}
use Rattle.mdr_world.proofs.globals.placed.Goals as goal

pub returns : goal.returns
returns c = placed_there c.args.blocks.now.memory c.args.blocks.now.handles c.args.v c.value_now.result c.requires c.value_now.ensures.value c.value_now.ensures.alive
