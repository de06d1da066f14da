use Rattle.mdr_model.proofs.WorkedCopyProofs.{cycle_is_told}
use Rattle.mdr_model.proofs.worked_copies.a_cycle_and_its_deaths_are_told.Goals as goal

pub returns : goal.returns
returns c = cycle_is_told
