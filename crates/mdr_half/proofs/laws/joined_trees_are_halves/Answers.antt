use Rattle.mdr_half.proofs.Parted.{joined_parts}
use Rattle.mdr_half.proofs.laws.joined_trees_are_halves.Goals as goal

pub returns : goal.returns
returns c = joined_parts
