use Rattle.std.proofs.Common.{◌-◌}
use Rattle.mdr_exec.proofs.TurnLaws.{StillRuns}
use Rattle.mdr_exec.proofs.go.run_on.Given as goal

-- what was run so far
abbrev pub invariant-loop-turns : goal.invariant-loop-turns
invariant-loop-turns g l = StillRuns g.C.Memory.accesses l.halves l.program l.fn.machine l.fn.memory l.ticks l.side l.machine l.memory l.left

abbrev pub decreases-loop-turns : goal.decreases-loop-turns
decreases-loop-turns g l = 18446744073709551615 - l.turns
