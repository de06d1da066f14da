use Rattle.std.proofs.Common.{◌-◌}
use Rattle.mdr_watch.specs.Commanding.{finishes_in}
use Rattle.mdr_watch.proofs.Scripted.{OnItsWay}
use Rattle.mdr_watch.proofs.commands.run_out.Given as goal

abbrev pub invariant-loop-turns : goal.invariant-loop-turns
invariant-loop-turns l = OnItsWay l.watch (finishes_in l.watch l.fn.reached.went l.fn.reached.world.world) l.reached.went l.reached.world

abbrev pub decreases-loop-turns : goal.decreases-loop-turns
decreases-loop-turns l = 18446744073709551615 - l.turns
