use Rattle.mdr_exchanges.proofs.Stops.{exchanges_few}
use Rattle.mdr_exchanges.proofs.laws.exchanges_are_few.Goals as goal

pub returns : goal.returns
returns c = exchanges_few
