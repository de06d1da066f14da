use Rattle.std.proofs.Common.{◌≡◌, ◌++◌, drop}
use Rattle.mdr_model.specs.Copies.{changed_cells}
use Rattle.mdr_user_memory.proofs.gathering.changed_cells.Given as goal

abbrev pub invariant-loop-cell : goal.invariant-loop-cell
invariant-loop-cell l = l.changed.items ++ changed_cells (drop l.cell-index l.cells) l.memory.agreed l.memory.memory ≡ changed_cells l.cells l.memory.agreed l.memory.memory
