use Rattle.std.proofs.Common.{◌≡◌, drop}
use Rattle.mdr_exec.specs.Found.{codes_in}
use Rattle.mdr_exec.specs.Places.{inner}
use Rattle.mdr_exec.proofs.places.block_at.Given as goal

abbrev pub invariant-loop-position : goal.invariant-loop-position
invariant-loop-position l = inner (drop l.position-index l.path) (codes_in l.block) ≡ inner l.path (codes_in l.body)
