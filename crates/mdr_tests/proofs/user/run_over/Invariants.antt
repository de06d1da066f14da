use Rattle.mdr_outside.specs.Far.{IsLoaded}
use Rattle.mdr_tests.proofs.user.run_over.Given as goal

abbrev pub invariant-loop-sent : goal.invariant-loop-sent
invariant-loop-sent g l = IsLoaded (g.F.Far.loaded l.far)
