use Rattle.mdr_runs.proofs.Pausing.{each_setting_pauses}
use Rattle.mdr_runs.proofs.laws.each_setting_pauses.Goals as goal

pub returns : goal.returns
returns c = each_setting_pauses
