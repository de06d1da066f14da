use Rattle.std.proofs.Common.{length}
use Rattle.mdr_outside.proofs.map_shelf.MapShelf.+can_hold.Given as goal

abbrev pub decreases-can_hold : goal.decreases-can_hold
decreases-can_hold l = length l.files.now
