use Rattle.std.proofs.Common.{◌≡◌, ◌++◌, drop}
use Rattle.mdr_access.specs.Walked.{users}
use Rattle.mdr_access.proofs.walk.users.Given as goal

abbrev pub invariant-loop-func : goal.invariant-loop-func
invariant-loop-func l = l.out.items ++ users l.halves (drop l.func-index l.funcs) ≡ users l.halves l.funcs
