use Rattle.mdr_meaning.proofs.StopProofs.{stops_have_places}
use Rattle.mdr_meaning.proofs.worked.stops_have_places.Goals as goal

pub returns : goal.returns
returns c = stops_have_places
