use Rattle.mdr_runs.proofs.Standing.{each_setting_stands}
use Rattle.mdr_runs.proofs.laws.each_setting_stands.Goals as goal

pub returns : goal.returns
returns g c = each_setting_stands _
