use Rattle.mdr_extents.specs.Around.{key_of}
use Rattle.mdr_meaning.specs.Values.{wire_of}
use Rattle.mdr_reach.proofs.FollowLaws.{nowhere}
use Rattle.mdr_reach.proofs.follow.extent_in_cell.Goals as goal

pub returns-else-is_pointer : goal.returns-else-is_pointer
returns-else-is_pointer c =
    nowhere c.args.scene.program.now c.args.scene.touched.now c.args.scene.blocks.now.memory c.args.h.born c.args.index (key_of c.args.scene.program.now c.args.h.born c.args.index) (wire_of c.args.value) (c.is_pointer.ensures c.if-is_pointer.false)
