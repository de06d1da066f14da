use Rattle.std.proofs.Common.{◌≡◌}
use Rattle.mdr_faults.specs.Faults.{told}
use Rattle.mdr_body.specs.Bodies.{declared_locals}
use Rattle.mdr_body.proofs.whole.declared_locals.Given as goal

abbrev pub invariant-loop-d : goal.invariant-loop-d
invariant-loop-d l = l.all ≡ told (declared_locals l.yielded)
