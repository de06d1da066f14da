use Rattle.mdr_reach.proofs.BlockLaws.{born_is}
use Rattle.mdr_reach.proofs.held.born_of.Goals as goal

pub returns : goal.returns
returns c = born_is c.args.blocks.now.memory c.args.b.serial c.kind.result c.shape-shape.result c.shape-shape.ensures c.kind.ensures
