use Rattle.std.proofs.Common.{◌≡◌, ◌+◌, drop}
use Rattle.mdr_fits.specs.Judged.{all_fit, places_of}
use Rattle.mdr_fits.proofs.faults.fit_row.Given as goal

abbrev pub invariant-loop-i : goal.invariant-loop-i
invariant-loop-i l = all_fit (places_of l.places) l.block (l.first + l.i) (drop l.i l.values) ≡ all_fit (places_of l.places) l.block l.first l.values
