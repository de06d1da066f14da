use Rattle.mdr_model.proofs.KernelSteps.{steps_may_follow}
use Rattle.mdr_model.proofs.laws.steps_may_follow.Goals as goal

pub returns : goal.returns
returns c = steps_may_follow
