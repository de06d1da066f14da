use Rattle.std.proofs.Common.{◌≡◌, ◌++◌, drop}
use Rattle.mdr_half.specs.Plans.{down_lines}
use Rattle.mdr_half.proofs.plan_lines.put_down_lines.Given as goal

abbrev pub invariant-loop-k : goal.invariant-loop-k
invariant-loop-k l = l.out.items ++ down_lines l.k (drop l.k l.down) ≡ l.initial.out.items ++ down_lines 0 l.down
