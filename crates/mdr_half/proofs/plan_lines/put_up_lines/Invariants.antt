use Rattle.std.proofs.Common.{◌≡◌, ◌++◌, drop}
use Rattle.mdr_half.specs.Plans.{up_lines}
use Rattle.mdr_half.proofs.plan_lines.put_up_lines.Given as goal

abbrev pub invariant-loop-k : goal.invariant-loop-k
invariant-loop-k l = l.out.items ++ up_lines l.plan l.k (drop l.k l.halves) ≡ l.initial.out.items ++ up_lines l.plan 0 l.halves
