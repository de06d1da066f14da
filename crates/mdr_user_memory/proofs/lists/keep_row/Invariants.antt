use Rattle.std.proofs.Common.{◌+◌, drop}
use Rattle.mdr_model.specs.Copies.{numbered}
use Rattle.mdr_track.specs.Tracked.{pairs_of}
use Rattle.mdr_user_memory.specs.Taking.{kept_all}
use Rattle.mdr_user_memory.proofs.LoopLaws.{Keeps}
use Rattle.mdr_user_memory.proofs.lists.keep_row.Given as goal

abbrev pub invariant-loop-i : goal.invariant-loop-i
invariant-loop-i l =
    Keeps (kept_all (numbered l.serial l.first l.values)) (kept_all (numbered l.serial (l.first + l.i) (drop l.i l.values))) l.initial.region.contents l.region.contents (pairs_of l.pairs)
