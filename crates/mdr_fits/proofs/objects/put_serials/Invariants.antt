use Rattle.std.proofs.Common.{◌≡◌, ◌++◌, drop}
use Rattle.mdr_split.specs.Services.{serials_of}
use Rattle.mdr_fits.proofs.objects.put_serials.Given as goal

abbrev pub invariant-loop-value : goal.invariant-loop-value
invariant-loop-value l = l.out ++ serials_of (drop l.value-index l.values) ≡ l.initial.out ++ serials_of l.values
