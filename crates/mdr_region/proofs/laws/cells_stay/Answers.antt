use Rattle.mdr_region.proofs.CellLaws.{cells_stay}
use Rattle.mdr_region.proofs.laws.cells_stay.Goals as goal

pub returns : goal.returns
returns c = cells_stay
