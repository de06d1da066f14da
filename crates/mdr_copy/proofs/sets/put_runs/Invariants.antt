use Rattle.std.proofs.Common.{◌≡◌, ◌++◌, drop}
use Rattle.mdr_model.specs.Sets.{cells_of_runs}
use Rattle.mdr_copy.proofs.sets.put_runs.Given as goal

abbrev pub invariant-loop-run : goal.invariant-loop-run
invariant-loop-run l = l.out.items ++ cells_of_runs (drop l.run-index l.runs) ≡ l.initial.out.items ++ cells_of_runs l.runs
