use Rattle.std.proofs.Common.{◌≡◌, drop}
use Rattle.mdr_fits.specs.Tables.{are_once}
use Rattle.mdr_fits.proofs.objects.are_once.Given as goal

abbrev pub invariant-loop-i : goal.invariant-loop-i
invariant-loop-i l = are_once (drop l.i l.values) ≡ are_once l.values
