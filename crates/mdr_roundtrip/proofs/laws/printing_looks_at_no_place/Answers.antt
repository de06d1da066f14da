use Rattle.mdr_roundtrip.proofs.PrintedTrees.{printed_alike}
use Rattle.mdr_roundtrip.proofs.laws.printing_looks_at_no_place.Goals as goal

pub returns : goal.returns
returns c = printed_alike
