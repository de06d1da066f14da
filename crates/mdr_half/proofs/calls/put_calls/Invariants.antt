use Rattle.std.proofs.Common.{◌≡◌, ◌++◌, drop}
use Rattle.mdr_half.specs.Plans.{calls_lines}
use Rattle.mdr_half.proofs.calls.put_calls.Given as goal

abbrev pub invariant-loop-k : goal.invariant-loop-k
invariant-loop-k l = l.out.items ++ calls_lines l.program l.graph l.k (drop l.k l.funcs) ≡ l.initial.out.items ++ calls_lines l.program l.graph 0 l.funcs
