use Rattle.mdr_shows.proofs.Served.{services_keep_sets}
use Rattle.mdr_shows.proofs.laws.services_keep_sets.Goals as goal

pub returns : goal.returns
returns c = services_keep_sets
