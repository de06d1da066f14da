use Rattle.mdr_honest.proofs.Planned.{plans_are_canonical}
use Rattle.mdr_honest.proofs.plan_laws.a_slicers_plan_is_canonical.Goals as goal

pub returns : goal.returns
returns c = plans_are_canonical
