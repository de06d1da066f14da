use Rattle.mdr_kept.proofs.FollowLaws.{strict_runs_are_followed}
use Rattle.mdr_kept.proofs.laws.strict_runs_are_followed.Goals as goal

pub returns : goal.returns
returns c = strict_runs_are_followed
