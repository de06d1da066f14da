use Rattle.std.proofs.Common.{◌≡◌, drop}
use Rattle.mdr_split.specs.Services.{are_new}
use Rattle.mdr_fits.proofs.results.are_new.Given as goal

abbrev pub invariant-loop-i : goal.invariant-loop-i
invariant-loop-i l = are_new l.news (drop l.i l.shapes) (drop l.i l.values) ≡ are_new l.news l.shapes l.values
