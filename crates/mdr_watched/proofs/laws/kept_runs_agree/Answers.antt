use Rattle.mdr_watched.proofs.KeptProofs.{kept_runs_agree}
use Rattle.mdr_watched.proofs.laws.kept_runs_agree.Goals as goal

pub returns : goal.returns
returns c = kept_runs_agree
