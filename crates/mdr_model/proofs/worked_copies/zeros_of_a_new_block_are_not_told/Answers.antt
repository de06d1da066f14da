use Rattle.mdr_model.proofs.WorkedCopyProofs.{zeros_arent_told}
use Rattle.mdr_model.proofs.worked_copies.zeros_of_a_new_block_are_not_told.Goals as goal

pub returns : goal.returns
returns c = zeros_arent_told
