-- The cycle, computed.
use Rattle.std.proofs.Common.{◌≡◌, map, refl}
use Rattle.mdr_track.specs.Pairs.{unpaired}
use Rattle.mdr_track.specs.Pointers.{addressed, named}
use Rattle.mdr_track.specs.Worked.{CycleIsTold, both, by_blocks, by_serials, without}

there : map (addressed both) by_serials ≡ by_blocks
unfolding addressed
there = refl

back : map (named both) by_blocks ≡ by_serials
unfolding named
back = refl

death : map (named (unpaired 5 both)) by_blocks ≡ without
unfolding named
death = refl

pub told : CycleIsTold
told = record { there = there; back = back; death = death; gone = refl; left = refl }
