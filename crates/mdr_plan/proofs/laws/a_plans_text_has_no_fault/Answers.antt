use Rattle.mdr_plan.proofs.Running.{no_fault}
use Rattle.mdr_plan.proofs.laws.a_plans_text_has_no_fault.Goals as goal

pub returns : goal.returns
returns c = no_fault
