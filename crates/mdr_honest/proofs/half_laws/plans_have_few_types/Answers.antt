use Rattle.mdr_honest.proofs.PlansRead.{few_types}
use Rattle.mdr_honest.proofs.half_laws.plans_have_few_types.Goals as goal

pub returns : goal.returns
returns c = few_types
