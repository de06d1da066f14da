use Rattle.std.proofs.Common.{arith}
use Rattle.mdr_region.specs.Holes.{hole}
use Rattle.mdr_region.proofs.HoleLaws.{rise_at}
use Rattle.mdr_region.proofs.holes.ends_at.Goals as goal

pub overflow_add-result : goal.overflow_add-result
overflow_add-result c = omega (arith, rise_at 0 c.args.top c.args.i c.args.holes.now (hole 0 0) c.requires c.if-i-holes.true, c.ranges.top.fits)
