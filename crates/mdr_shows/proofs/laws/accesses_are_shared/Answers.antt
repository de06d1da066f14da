use Rattle.mdr_shows.proofs.Accesses.{accesses_are_shared}
use Rattle.mdr_shows.proofs.laws.accesses_are_shared.Goals as goal

pub returns : goal.returns
returns c = accesses_are_shared
