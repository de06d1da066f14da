use Rattle.mdr_half.proofs.WorkedText.{worked_out}
use Rattle.mdr_half.proofs.laws.a_counters_plan_is_written.Goals as goal

pub returns : goal.returns
returns c = worked_out
