use Rattle.std.proofs.Common.{◌≡◌}
use Rattle.mdr_body.specs.Clauses.{sorted, no_clauses}
use Rattle.mdr_body.proofs.clauses.sorted.Given as goal

abbrev pub invariant-loop-c : goal.invariant-loop-c
invariant-loop-c l = l.all ≡ sorted no_clauses l.yielded
