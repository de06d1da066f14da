use Rattle.mdr_exec.proofs.QuickLaws.{RunsInList}
use Rattle.mdr_exec.proofs.quick.assign_all.Given as goal

-- what was done so far
abbrev pub invariant-loop-left : goal.invariant-loop-left
invariant-loop-left g l = RunsInList g.C.Memory.accesses l.program l.fn.machine l.fn.memory l.ticks l.machine l.memory l.left

abbrev pub decreases-loop-left : goal.decreases-loop-left
decreases-loop-left g l = l.left
