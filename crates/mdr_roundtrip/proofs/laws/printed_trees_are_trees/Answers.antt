use Rattle.mdr_roundtrip.proofs.RereadItems.{trees_reread}
use Rattle.mdr_roundtrip.proofs.laws.printed_trees_are_trees.Goals as goal

pub returns : goal.returns
returns c = trees_reread
