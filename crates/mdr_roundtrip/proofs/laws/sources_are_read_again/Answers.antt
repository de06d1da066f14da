use Rattle.mdr_roundtrip.proofs.ShapingSources.{sources_are_shaped, trees_again}
use Rattle.mdr_roundtrip.proofs.laws.sources_are_read_again.Goals as goal

pub returns-clause-shaped : goal.returns-clause-shaped
returns-clause-shaped c = sources_are_shaped

pub returns-clause-again : goal.returns-clause-again
returns-clause-again c = trees_again
