use Rattle.std.proofs.Common.{◌-◌}
use Rattle.mdr_whole.proofs.Turns.{OnItsWay}
use Rattle.mdr_whole.proofs.calls.run_out.Given as goal

-- what follows does what was to be done at first
abbrev pub invariant-loop-turns : goal.invariant-loop-turns
invariant-loop-turns g l = OnItsWay g.B.Before.tries l.code l.fn.went l.fn.world.world l.went l.world

abbrev pub decreases-loop-turns : goal.decreases-loop-turns
decreases-loop-turns g l = 18446744073709551615 - l.turns
