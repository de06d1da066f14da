use Rattle.mdr_cut.proofs.Determined.{plan_is_determined}
use Rattle.mdr_cut.proofs.laws.plan_is_determined.Goals as goal

pub returns : goal.returns
returns c = plan_is_determined
