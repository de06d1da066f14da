use Rattle.mdr_plan.proofs.Running.{fault_once}
use Rattle.mdr_plan.proofs.laws.a_text_has_one_fault.Goals as goal

pub returns : goal.returns
returns c = fault_once
