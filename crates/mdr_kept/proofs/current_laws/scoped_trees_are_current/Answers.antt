use Rattle.mdr_kept.proofs.TreeLaws.{scoped_trees_are_current}
use Rattle.mdr_kept.proofs.current_laws.scoped_trees_are_current.Goals as goal

pub returns : goal.returns
returns c = scoped_trees_are_current
