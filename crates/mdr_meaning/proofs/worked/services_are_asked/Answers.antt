use Rattle.mdr_meaning.proofs.StopProofs.{services_are_asked}
use Rattle.mdr_meaning.proofs.worked.services_are_asked.Goals as goal

pub returns : goal.returns
returns c = services_are_asked
