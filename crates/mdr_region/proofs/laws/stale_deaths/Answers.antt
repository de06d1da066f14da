use Rattle.mdr_region.proofs.KeptLaws.{stale_death}
use Rattle.mdr_region.proofs.laws.stale_deaths.Goals as goal

pub returns : goal.returns
returns c = stale_death
