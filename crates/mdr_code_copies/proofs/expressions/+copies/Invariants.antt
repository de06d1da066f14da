use Rattle.std.proofs.Common.{◌≡◌, ◌++◌, drop}
use Rattle.mdr_code_copies.proofs.expressions.+copies.Given as goal

abbrev pub invariant-copied_args-loop-e : goal.invariant-copied_args-loop-e
invariant-copied_args-loop-e l = l.all ++ drop l.e-index l.args ≡ l.args
