use Rattle.std.proofs.Common.{◌≡◌, drop}
use Rattle.mdr_check.specs.Initialisers.{are_once, field_of}
use Rattle.mdr_check.proofs.initialiser.are_once.Given as goal

abbrev pub invariant-loop-i : goal.invariant-loop-i
invariant-loop-i l = are_once field_of (drop l.i l.elems) ≡ are_once field_of l.elems
