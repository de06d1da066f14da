use Rattle.mdr_meaning.proofs.FuelLaws.{user_trees_are_equal}
use Rattle.mdr_meaning.proofs.laws.user_trees_are_equal.Goals as goal

pub returns : goal.returns
returns c = user_trees_are_equal
