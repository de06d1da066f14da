use Rattle.mdr_core.proofs.WorkedProofs.{structs_have_cells}
use Rattle.mdr_core.proofs.worked.structs_have_cells.Goals as goal

pub returns : goal.returns
returns c = structs_have_cells
