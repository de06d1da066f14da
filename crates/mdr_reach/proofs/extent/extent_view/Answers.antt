use Rattle.mdr_meaning.specs.Values.{wire_view}
use Rattle.mdr_reach.specs.Marks.{extent_of, siblings_of}
use Rattle.mdr_reach.proofs.BlockLaws.{held_none, held_some, serial_some}
use Rattle.mdr_reach.proofs.ExtentLaws.{extent_nowhere, extent_there}
use Rattle.mdr_reach.proofs.extent.extent_view.Goals as goal

pub returns-in-Some : goal.returns-in-Some
returns-in-Some c =
    extent_there c.args.scene.program.now c.args.scene.touched.now c.args.scene.blocks.now c.in-Some.h (held_some c.args.scene.program.now c.args.scene.touched.now c.args.scene.blocks.now c.args.p.block.serial _ c.in-Some.h c.in-Some.is c.block_of.ensures.held) (siblings_of c.args.scene.program.now c.args.scene.blocks.now.handles c.args.siblings) c.args.ann (wire_view c.args.p) (extent_of c.extent_in.result)
    (serial_some c.args.scene.program.now c.args.scene.touched.now c.args.scene.blocks.now c.args.p.block.serial _ c.in-Some.h c.in-Some.is c.block_of.ensures.serial) c.extent_in.ensures

pub returns-in-None : goal.returns-in-None
returns-in-None c = extent_nowhere c.args.scene.program.now c.args.scene.touched.now c.args.scene.blocks.now.memory (siblings_of c.args.scene.program.now c.args.scene.blocks.now.handles c.args.siblings) c.args.ann (wire_view c.args.p) (held_none c.args.scene.program.now c.args.scene.touched.now c.args.scene.blocks.now c.args.p.block.serial _ c.in-None.is c.block_of.ensures.held)
