use Rattle.std.proofs.Common.{◌≡◌, None, drop}
use Rattle.std.specs.Prelude.{option_map}
use Rattle.mdr_copy.specs.Extents.{set_run}
use Rattle.mdr_split.specs.Legal.{runs_fault}
use Rattle.mdr_fits.specs.Judged.{places_of}
use Rattle.mdr_fits.proofs.faults.runs_fault.Given as goal

abbrev pub invariant-loop-number : goal.invariant-loop-number
invariant-loop-number l =
    runs_fault (places_of l.places) l.view (option_map set_run l.before) l.number (drop l.number l.runs) ≡ runs_fault (places_of l.places) l.view None 0 l.runs
