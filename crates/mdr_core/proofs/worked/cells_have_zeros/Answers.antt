use Rattle.mdr_core.proofs.WorkedProofs.{cells_have_zeros}
use Rattle.mdr_core.proofs.worked.cells_have_zeros.Goals as goal

pub returns : goal.returns
returns c = cells_have_zeros
