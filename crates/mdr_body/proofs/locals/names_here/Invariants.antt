use Rattle.std.proofs.Common.{◌≡◌, ◌++◌, drop}
use Rattle.mdr_body.specs.Locals.{names_here}
use Rattle.mdr_body.proofs.locals.names_here.Given as goal

abbrev pub invariant-loop-n : goal.invariant-loop-n
invariant-loop-n l = l.all ++ names_here (drop l.n-index l.names) ≡ names_here l.names
