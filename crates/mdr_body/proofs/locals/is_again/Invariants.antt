use Rattle.std.proofs.Common.{◌≡◌, drop}
use Rattle.mdr_body.specs.Locals.{is_again}
use Rattle.mdr_body.proofs.locals.is_again.Given as goal

abbrev pub invariant-loop-n : goal.invariant-loop-n
invariant-loop-n l = is_again l.first l.name (drop l.n-index l.names) ≡ is_again l.first l.name l.names
