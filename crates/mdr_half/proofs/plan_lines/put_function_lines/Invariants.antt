use Rattle.std.proofs.Common.{◌≡◌, ◌++◌, drop}
use Rattle.mdr_half.specs.Plans.{function_lines}
use Rattle.mdr_half.proofs.plan_lines.put_function_lines.Given as goal

abbrev pub invariant-loop-k : goal.invariant-loop-k
invariant-loop-k l = l.out.items ++ function_lines l.plan l.k (drop l.k l.names) ≡ l.initial.out.items ++ function_lines l.plan 0 l.names
