use Rattle.std.proofs.Common.{◌≡◌, drop}
use Rattle.mdr_core.specs.Folds.{codes_of}
use Rattle.mdr_exec.specs.Places.{inner}
use Rattle.mdr_exec.proofs.places.inside.Given as goal

abbrev pub invariant-loop-position : goal.invariant-loop-position
invariant-loop-position l = inner (drop l.position-index l.path) (codes_of l.list) ≡ inner l.path (codes_of l.statements)
