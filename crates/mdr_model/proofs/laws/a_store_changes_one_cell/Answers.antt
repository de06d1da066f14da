use Rattle.mdr_model.proofs.MemoryInOrder.{store_is_one_cell}
use Rattle.mdr_model.proofs.laws.a_store_changes_one_cell.Goals as goal

pub returns : goal.returns
returns c = store_is_one_cell
