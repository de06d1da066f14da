use Rattle.std.proofs.Common.{◌≡◌, ◌++◌, map, drop}
use Rattle.mdr_model.specs.Memory.{swept}
use Rattle.mdr_copy.proofs.lives.swept_cells.Given as goal

abbrev pub invariant-loop-value : goal.invariant-loop-value
invariant-loop-value l = l.out.items ++ map (swept l.serial) (drop l.value-index l.cells) ≡ map (swept l.serial) l.cells
