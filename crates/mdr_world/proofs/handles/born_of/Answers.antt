use Rattle.mdr_world.proofs.BlockLaws.{born-is}
use Rattle.mdr_world.proofs.handles.born_of.Goals as goal

pub returns : goal.returns
returns c = born-is c.args.blocks.now.memory c.args.b.serial c.kind.result c.shape-shape.result c.shape-shape.ensures c.kind.ensures
