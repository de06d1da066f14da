use Rattle.std.proofs.Common.{◌≡◌, drop, map}
use Rattle.mdr_faults.specs.Faults.{told}
use Rattle.mdr_headings.specs.Names.{first_of, all_fine}
use Rattle.mdr_check.specs.Names.{short_enumerator}
use Rattle.mdr_check.proofs.names.short_enumerators.Given as goal

abbrev pub invariant-loop-e : goal.invariant-loop-e
invariant-loop-e l = first_of l.all (told (all_fine (map short_enumerator (drop l.e-index l.es)))) ≡ told (all_fine (map short_enumerator l.es))
