use Rattle.std.proofs.Common.{◌≡◌, drop}
use Rattle.mdr_model.specs.Copies.{put_runs}
use Rattle.mdr_copy.proofs.store.put_runs.Given as goal

abbrev pub invariant-loop-run : goal.invariant-loop-run
invariant-loop-run l = put_runs (drop l.run-index l.runs) l.memory ≡ put_runs l.runs l.initial.memory
