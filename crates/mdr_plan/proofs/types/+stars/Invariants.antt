use Rattle.std.proofs.Common.{length}
use Rattle.mdr_plan.proofs.types.+stars.Given as goal

abbrev pub decreases-stars : goal.decreases-stars
decreases-stars l = length l.bytes.now
