use Rattle.mdr_extents.proofs.SearchLaws.{searches_are_exact}
use Rattle.mdr_extents.proofs.laws.searches_are_exact.Goals as goal

pub returns : goal.returns
returns c = searches_are_exact
