use Rattle.std.proofs.Common.{take}
use Rattle.mdr_track.specs.Tracked.{pairs_of}
use Rattle.mdr_user_memory.specs.Lived.{HasLived, lived_of}
use Rattle.mdr_user_memory.specs.Paired.{Paired}
use Rattle.mdr_user_memory.proofs.opening.twins_of.Given as goal

abbrev pub invariant-loop-block : goal.invariant-loop-block
invariant-loop-block l = Paired (take l.block-index l.copy) l.region.contents (pairs_of l.pairs) × HasLived (lived_of (take l.block-index l.copy)) l.region.contents.lives (pairs_of l.pairs)
