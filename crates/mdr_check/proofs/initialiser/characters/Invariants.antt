use Rattle.std.proofs.Common.{◌≡◌, ◌++◌, drop}
use Rattle.mdr_check.specs.Initialisers.{characters}
use Rattle.mdr_check.proofs.initialiser.characters.Given as goal

abbrev pub invariant-loop-b : goal.invariant-loop-b
invariant-loop-b l = l.all ++ characters l.kind (drop l.b-index l.bytes) ≡ characters l.kind l.bytes
