use Rattle.std.proofs.Common.{◌≡◌, ◌++◌, drop}
use Rattle.mdr_split.specs.Services.{less}
use Rattle.mdr_fits.proofs.objects.put_less.Given as goal

abbrev pub invariant-loop-serial : goal.invariant-loop-serial
invariant-loop-serial l = l.out ++ less l.gone (drop l.serial-index l.serials) ≡ l.initial.out ++ less l.gone l.serials
