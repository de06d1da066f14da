use Rattle.mdr_world.proofs.ZeroLaws.{repeated_more}
use Rattle.mdr_world.proofs.births.repeated.Goals as goal

pub loop-left-preserved : goal.loop-left-preserved
loop-left-preserved c = rw c.in_ok-extend_from_slice.ensures.items (repeated_more c.args.element.now _ _ c.loop-left.left c.loop-left-test.true c.loop-left.invariant)
