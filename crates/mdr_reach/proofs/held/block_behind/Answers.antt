use Rattle.mdr_reach.proofs.BlockLaws.{last_some}
use Rattle.mdr_reach.proofs.held.block_behind.Goals as goal

pub this_or_other-requires-clause-held : goal.this_or_other-requires-clause-held
this_or_other-requires-clause-held c = last_some c.args.scene.program.now c.args.scene.touched.now c.args.scene.blocks.now c.args.serial c.args.last c.in-Some.h c.in-Some.is c.requires.last
