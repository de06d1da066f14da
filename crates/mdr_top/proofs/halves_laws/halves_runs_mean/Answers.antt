use Rattle.mdr_top.proofs.HalvesHonest.{halves_mean}
use Rattle.mdr_top.proofs.halves_laws.halves_runs_mean.Goals as goal

pub returns : goal.returns
returns c = halves_mean
