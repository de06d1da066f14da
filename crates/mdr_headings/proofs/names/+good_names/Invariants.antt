use Rattle.std.proofs.Common.{◌≡◌, [], drop, map, take}
use Rattle.mdr_faults.specs.Faults.{told}
use Rattle.mdr_headings.specs.Names.{first_of, spelled, spelled_list}
use Rattle.mdr_headings.proofs.names.+good_names.Given as goal

abbrev pub invariant-good_list-loop-i : goal.invariant-good_list-loop-i
invariant-good_list-loop-i l = first_of l.all (told (spelled_list (map spelled (take l.i l.ds)) (map spelled (drop l.i l.ds)))) ≡ told (spelled_list [] (map spelled l.ds))
