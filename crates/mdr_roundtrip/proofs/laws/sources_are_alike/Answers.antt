use Rattle.mdr_roundtrip.proofs.PlacedSources.{sources_alike}
use Rattle.mdr_roundtrip.proofs.laws.sources_are_alike.Goals as goal

pub returns : goal.returns
returns c = sources_alike
