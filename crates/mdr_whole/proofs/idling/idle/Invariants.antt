use Rattle.std.proofs.Common.{◌-◌}
use Rattle.mdr_whole.specs.Going.{driver_code}
use Rattle.mdr_whole.proofs.Scripts.{Idles}
use Rattle.mdr_whole.proofs.idling.idle.Given as goal

abbrev pub invariant-loop-passed : goal.invariant-loop-passed
invariant-loop-passed l = Idles (driver_code l.code) l.code.program.now l.ticks l.fn.world l.passed l.world

abbrev pub decreases-loop-passed : goal.decreases-loop-passed
decreases-loop-passed l = l.ticks - l.passed
