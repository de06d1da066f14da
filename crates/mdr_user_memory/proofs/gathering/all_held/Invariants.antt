use Rattle.std.proofs.Common.{◌≡◌, ◌++◌, map, drop}
use Rattle.mdr_model.specs.Copies.{held}
use Rattle.mdr_user_memory.proofs.gathering.all_held.Given as goal

abbrev pub invariant-loop-cell : goal.invariant-loop-cell
invariant-loop-cell l = l.values ++ map (held l.memory.memory) (drop l.cell-index l.cells) ≡ map (held l.memory.memory) l.cells
