use Rattle.mdr_rich_sources.proofs.Keeps.{lowering_keeps_trees}
use Rattle.mdr_rich_sources.proofs.lowering_laws.lowering_keeps_trees.Goals as goal

pub returns : goal.returns
returns c = lowering_keeps_trees
