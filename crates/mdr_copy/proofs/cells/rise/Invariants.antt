use Rattle.std.proofs.Common.{◌≡◌, None, drop}
use Rattle.mdr_copy.specs.CellOrders.{cells_rise}
use Rattle.mdr_copy.proofs.cells.rise.Given as goal

abbrev pub invariant-loop-cell : goal.invariant-loop-cell
invariant-loop-cell l = cells_rise l.before (drop l.cell-index l.cells) ≡ cells_rise None l.cells
