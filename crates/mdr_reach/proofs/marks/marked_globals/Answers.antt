use Rattle.std.proofs.Common.{ap}
use Rattle.mdr_cells.specs.Names.{named}
use Rattle.mdr_reach.proofs.FollowLaws.{no_globals}
use Rattle.mdr_reach.proofs.marks.marked_globals.Goals as goal

pub loop-global-init : goal.loop-global-init
loop-global-init c = no_globals c.args.scene.program.now c.args.scene.touched.now c.args.scene.blocks.now.memory _ (ap named c.new-marked.ensures)
