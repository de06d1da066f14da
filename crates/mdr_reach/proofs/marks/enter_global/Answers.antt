use Rattle.std.proofs.Common.{refl}
use Rattle.mdr_cells.specs.Names.{named}
use Rattle.mdr_reach.proofs.BlockLaws.{held_some, serial_some}
use Rattle.mdr_reach.proofs.FollowLaws.{global_held}
use Rattle.mdr_reach.proofs.marks.enter_global.Goals as goal

pub returns-in_ok-enter_in-in-Some : goal.returns-in_ok-enter_in-in-Some
returns-in_ok-enter_in-in-Some c test had =
    global_held c.args.scene.program.now c.args.scene.touched.now c.args.scene.blocks.now.memory c.args.scene.blocks.now c.in-Some.h (held_some c.args.scene.program.now c.args.scene.touched.now c.args.scene.blocks.now c.args.global _ c.in-Some.h c.in-Some.is c.block_at.ensures.held) refl test (named c.args.marked.now) (named c.enter_in.new.marked) c.args.global _
    (serial_some c.args.scene.program.now c.args.scene.touched.now c.args.scene.blocks.now c.args.global _ c.in-Some.h c.in-Some.is c.block_at.ensures.serial) refl c.in_ok-enter_in-in-Some.ensures had
