use Rattle.mdr_shows.proofs.Copied.{sets_are_copied}
use Rattle.mdr_shows.proofs.laws.sets_are_copied.Goals as goal

pub returns : goal.returns
returns c = sets_are_copied
