use Rattle.mdr_plain.proofs.AloneLaws.{plain_runs_are_alone}
use Rattle.mdr_plain.proofs.laws.plain_runs_are_alone.Goals as goal

pub returns : goal.returns
returns c = plain_runs_are_alone
