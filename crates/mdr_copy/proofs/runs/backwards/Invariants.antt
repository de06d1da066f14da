use Rattle.std.proofs.Common.{◌≡◌, ◌≤◌, length, drop, reverse}
use Rattle.mdr_model.specs.Sets.{runs_of_cells}
use Rattle.mdr_copy.proofs.runs.backwards.Given as goal

abbrev pub invariant-loop-i : goal.invariant-loop-i
invariant-loop-i l = (l.i ≤ length l.cells) × (reverse l.runs.items ≡ runs_of_cells (drop l.i l.cells))

abbrev pub decreases-loop-i : goal.decreases-loop-i
decreases-loop-i l = l.i
