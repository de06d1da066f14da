use Rattle.std.proofs.Common.{◌≡◌, ◌++◌}
use Rattle.mdr_core.specs.Layout.{repeated}
use Rattle.mdr_world.proofs.births.repeated.Given as goal

abbrev pub invariant-loop-left : goal.invariant-loop-left
invariant-loop-left l = l.all.items ++ repeated l.left l.element ≡ repeated l.count l.element

abbrev pub decreases-loop-left : goal.decreases-loop-left
decreases-loop-left l = l.left
