use Rattle.std.proofs.Common.{drop}
use Rattle.mdr_track.specs.Tracked.{pairs_of}
use Rattle.mdr_user_memory.specs.Taking.{kept_runs}
use Rattle.mdr_user_memory.proofs.LoopLaws.{Keeps}
use Rattle.mdr_user_memory.proofs.lists.scatter.Given as goal

abbrev pub invariant-loop-run : goal.invariant-loop-run
invariant-loop-run l = Keeps (kept_runs l.runs) (kept_runs (drop l.run-index l.runs)) l.initial.region.contents l.region.contents (pairs_of l.pairs)
