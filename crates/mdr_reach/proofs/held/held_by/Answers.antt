use Rattle.mdr_reach.proofs.BlockLaws.{born_serial, held_is}
use Rattle.mdr_reach.proofs.held.held_by.Goals as goal

pub returns-clause-held : goal.returns-clause-held
returns-clause-held c = held_is c.args.scene.program.now c.args.scene.touched.now c.args.scene.blocks.now _ c.args.b.serial c.born_of-born.ensures c.row_for.ensures c.is_lone_touched.ensures c.cells.ensures

pub returns-clause-serial : goal.returns-clause-serial
returns-clause-serial c = born_serial c.args.scene.blocks.now.memory c.args.b.serial c.born_of-born.result c.born_of-born.ensures
