use Rattle.mdr_reach.proofs.BlockLaws.{offset_is}
use Rattle.mdr_reach.proofs.held.offset.Goals as goal

pub returns : goal.returns
returns c = offset_is c.args.scene.program.now c.args.scene.touched.now c.args.scene.blocks.now c.args.h c.requires c.args.index c.in_elements.result c.as_slice.result.now c.as_slice.ensures c.in_elements.ensures
