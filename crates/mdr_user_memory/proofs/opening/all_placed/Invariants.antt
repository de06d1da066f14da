use Rattle.std.proofs.Common.{◌≡◌, ◌++◌, drop}
use Rattle.mdr_track.specs.Tracked.{pairs_of}
use Rattle.mdr_user_memory.specs.Paired.{told_all}
use Rattle.mdr_user_memory.proofs.opening.all_placed.Given as goal

abbrev pub invariant-loop-wire : goal.invariant-loop-wire
invariant-loop-wire l = told_all l.region.contents.handles (pairs_of l.pairs) l.values ++ drop l.wire-index l.wires ≡ l.wires
