use Rattle.std.proofs.Common.{◌≡◌, drop, map}
use Rattle.mdr_faults.specs.Faults.{told}
use Rattle.mdr_headings.specs.Names.{first_of, all_fine, good_names}
use Rattle.mdr_headings.proofs.names.all_good_names.Given as goal

abbrev pub invariant-loop-d : goal.invariant-loop-d
invariant-loop-d l = first_of l.all (told (all_fine (map good_names (drop l.d-index l.ds)))) ≡ told (all_fine (map good_names l.ds))
