use Rattle.std.proofs.Common.{◌≡◌}
use Rattle.mdr_device.specs.Machines.{advanced}
use Rattle.mdr_device.proofs.device.Device.advance.Given as goal

abbrev pub invariant-loop-left : goal.invariant-loop-left
invariant-loop-left l = advanced l.left l.self ≡ advanced l.ticks l.fn.self

abbrev pub decreases-loop-left : goal.decreases-loop-left
decreases-loop-left l = l.left
