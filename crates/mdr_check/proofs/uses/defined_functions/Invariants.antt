use Rattle.std.proofs.Common.{◌≡◌, drop}
use Rattle.mdr_faults.specs.Faults.{told, followed}
use Rattle.mdr_check.specs.Uses.{defined_functions}
use Rattle.mdr_check.proofs.uses.defined_functions.Given as goal

abbrev pub invariant-loop-f : goal.invariant-loop-f
invariant-loop-f g l = followed l.all (told (defined_functions (g.B.Bodies.used l.bodies) l.items (drop l.f-index l.fs))) ≡ told (defined_functions (g.B.Bodies.used l.bodies) l.items l.fs)
