use Rattle.mdr_top.proofs.Stages.{outcome_is_determined}
use Rattle.mdr_top.proofs.outcome_laws.outcome_is_determined.Goals as goal

pub returns : goal.returns
returns c = outcome_is_determined
