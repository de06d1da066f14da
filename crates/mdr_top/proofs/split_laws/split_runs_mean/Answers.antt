use Rattle.mdr_top.proofs.SplitHonest.{runs_mean}
use Rattle.mdr_top.proofs.split_laws.split_runs_mean.Goals as goal

pub returns : goal.returns
returns c = runs_mean
