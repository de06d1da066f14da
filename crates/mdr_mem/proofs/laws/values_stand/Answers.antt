use Rattle.mdr_mem.proofs.StandingLaws as law
use Rattle.mdr_mem.proofs.laws.values_stand.Goals as goal

pub returns : goal.returns
returns c = law.values_stand
