use Rattle.mdr_exec.proofs.TurningLaws.{RanSo}
use Rattle.mdr_exec.proofs.turning.run_integers.Given as goal

-- what was done so far
abbrev pub invariant-loop-turn : goal.invariant-loop-turn
invariant-loop-turn g l = RanSo g.C.Memory.accesses l.program l.fn.machine l.fn.memory l.ticks l.machine l.memory l.left
