use Rattle.mdr_plan.proofs.Running.{plan_once}
use Rattle.mdr_plan.proofs.laws.a_text_is_of_one_plan.Goals as goal

pub returns : goal.returns
returns c = plan_once
