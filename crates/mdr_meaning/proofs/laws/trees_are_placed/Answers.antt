use Rattle.mdr_meaning.proofs.PlacedLaws.{trees_are_placed}
use Rattle.mdr_meaning.proofs.laws.trees_are_placed.Goals as goal

pub returns : goal.returns
returns c = trees_are_placed
