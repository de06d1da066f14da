use Rattle.mdr_kept.proofs.RunLaws.{followed_runs_are_strict}
use Rattle.mdr_kept.proofs.report_laws.followed_runs_are_strict.Goals as goal

pub returns : goal.returns
returns c = followed_runs_are_strict
