use Rattle.std.proofs.Common.{◌≡◌, ◌++◌, drop}
use Rattle.mdr_half.specs.Plans.{type_lines}
use Rattle.mdr_half.proofs.plan_lines.put_type_lines.Given as goal

abbrev pub invariant-loop-k : goal.invariant-loop-k
invariant-loop-k l = l.out.items ++ type_lines l.program l.k (drop l.k l.types) ≡ l.initial.out.items ++ type_lines l.program 0 l.types
