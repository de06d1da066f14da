use Rattle.mdr_roundtrip.proofs.ItemsApart.{trees_apart}
use Rattle.mdr_roundtrip.proofs.token_laws.printable_trees_are_apart.Goals as goal

pub returns : goal.returns
returns c = trees_apart
