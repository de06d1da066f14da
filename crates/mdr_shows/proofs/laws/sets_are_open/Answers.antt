use Rattle.mdr_shows.proofs.Open.{sets_are_open}
use Rattle.mdr_shows.proofs.laws.sets_are_open.Goals as goal

pub returns : goal.returns
returns c = sets_are_open
