use Rattle.mdr_plain.proofs.AloneLaws.{runs_need_ticks_alone}
use Rattle.mdr_plain.proofs.laws.runs_need_ticks_alone.Goals as goal

pub returns : goal.returns
returns c = runs_need_ticks_alone
