use Rattle.mdr_reach.proofs.BlockLaws.{held_none, held_some, serial_some}
use Rattle.mdr_reach.proofs.BornLaws.{born_held, none_gained}
use Rattle.mdr_reach.proofs.born.with_serial.Goals as goal

pub returns-in_ok-all-in-Some : goal.returns-in_ok-all-in-Some
returns-in_ok-all-in-Some c =
    born_held c.args.scene.program.now c.args.scene.touched.now c.args.scene.blocks.now c.in-Some.h c.args.serial c.args.set c.in_ok-all-in-Some.all (held_some c.args.scene.program.now c.args.scene.touched.now c.args.scene.blocks.now c.args.serial _ c.in-Some.h c.in-Some.is c.block_at.ensures.held)
    (serial_some c.args.scene.program.now c.args.scene.touched.now c.args.scene.blocks.now c.args.serial _ c.in-Some.h c.in-Some.is c.block_at.ensures.serial) c.in_ok-all-in-Some.ensures

pub returns-in-None : goal.returns-in-None
returns-in-None c = none_gained c.args.scene.program.now c.args.scene.touched.now c.args.scene.blocks.now.memory c.args.serial c.args.set (held_none c.args.scene.program.now c.args.scene.touched.now c.args.scene.blocks.now c.args.serial _ c.in-None.is c.block_at.ensures.held)
