use Rattle.std.proofs.Common.{◌≡◌, ◌++◌, ◌+◌, ◌-◌}
use Rattle.mdr_model.specs.Sets.{cells_from, cells_of_run}
use Rattle.mdr_copy.proofs.sets.put_run.Given as goal

abbrev pub invariant-loop-i : goal.invariant-loop-i
invariant-loop-i l = l.out.items ++ cells_from l.run.serial (l.run.first + l.i) (l.run.len - l.i) ≡ l.initial.out.items ++ cells_of_run l.run
