use Rattle.mdr_reach.proofs.BlockLaws.{touched_is}
use Rattle.mdr_reach.proofs.held.is_touched.Goals as goal

pub returns : goal.returns
returns c = touched_is c.args.scene.program.now c.args.scene.touched.now c.args.scene.blocks.now c.args.h c.requires c.args.index c.is_around_touched.result c.around.result c.is_around_touched.ensures c.around.ensures
