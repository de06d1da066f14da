use Rattle.mdr_top.proofs.Endings.{split_runs_end}
use Rattle.mdr_top.proofs.split_laws.split_runs_end.Goals as goal

pub returns : goal.returns
returns c = split_runs_end
