use Rattle.std.proofs.Common.{◌≡◌, ◌++◌, drop}
use Rattle.mdr_exec.proofs.leave.joined.Given as goal

abbrev pub invariant-loop-value : goal.invariant-loop-value
invariant-loop-value l = l.born ++ drop l.value-index l.inner ≡ l.fn.outer ++ l.inner
