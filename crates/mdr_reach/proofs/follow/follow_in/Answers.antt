use Rattle.mdr_cells.specs.Names.{named}
use Rattle.mdr_reach.proofs.FollowLaws.{lone_led, lone_whole}
use Rattle.mdr_reach.proofs.follow.follow_in.Goals as goal

pub returns-else-holds_pointer-clause-whole : goal.returns-else-holds_pointer-clause-whole
returns-else-holds_pointer-clause-whole c = lone_whole c.args.scene.program.now c.args.scene.touched.now c.args.scene.blocks.now c.args.h c.requires.held c.args.index (c.holds_pointer.ensures c.if-holds_pointer.false)

pub returns-else-holds_pointer-clause-marked : goal.returns-else-holds_pointer-clause-marked
returns-else-holds_pointer-clause-marked c = lone_led c.args.scene.program.now c.args.scene.touched.now c.args.scene.blocks.now c.args.h c.requires.held c.args.index (c.holds_pointer.ensures c.if-holds_pointer.false) (named c.args.marked.now)
