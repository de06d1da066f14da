use Rattle.mdr_runs.proofs.Standing.{each_setting_runs}
use Rattle.mdr_runs.proofs.laws.each_setting_runs.Goals as goal

pub returns : goal.returns
returns c = each_setting_runs
