use Rattle.mdr_kept.proofs.PlainLaws.{strict_runs_are_plain}
use Rattle.mdr_kept.proofs.laws.strict_runs_are_plain.Goals as goal

pub returns : goal.returns
returns c = strict_runs_are_plain
