use Rattle.mdr_honest.proofs.PlansRead.{plans_planned}
use Rattle.mdr_honest.proofs.half_laws.plans_that_are_read_are_planned.Goals as goal

-- src/half_laws.rt:14:1
pub returns : goal.returns
returns c = plans_planned
