use Rattle.std.proofs.Common.{◌≡◌, ◌++◌, map, drop}
use Rattle.mdr_model.specs.Copies.{run_from}
use Rattle.mdr_user_memory.proofs.gathering.runs_from.Given as goal

abbrev pub invariant-loop-run : goal.invariant-loop-run
invariant-loop-run l = l.told ++ map (run_from l.memory.memory) (drop l.run-index l.runs) ≡ map (run_from l.memory.memory) l.runs
