use Rattle.std.proofs.Common.{◌≡◌, drop}
use Rattle.mdr_faults.specs.Faults.{told, followed}
use Rattle.mdr_check.specs.Initialisers.{members_first}
use Rattle.mdr_check.proofs.initialiser.members_first.Given as goal

abbrev pub invariant-loop-i : goal.invariant-loop-i
invariant-loop-i l = followed l.all (told (members_first l.parts l.i (drop l.i l.members))) ≡ told (members_first l.parts 0 l.members)
