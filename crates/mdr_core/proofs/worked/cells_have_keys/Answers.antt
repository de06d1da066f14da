use Rattle.mdr_core.proofs.WorkedProofs.{cells_have_keys}
use Rattle.mdr_core.proofs.worked.cells_have_keys.Goals as goal

pub returns : goal.returns
returns c = cells_have_keys
