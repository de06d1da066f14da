use Rattle.mdr_plain.proofs.RunProofs.{adds_five, adds_four, counts_down, cuts_ring, fails_second, fills_object, meets_objects, takes_alias, turns_ring}
use Rattle.mdr_plain.proofs.worked.drivers_run.Goals as goal

pub returns : goal.returns
returns c = record { down = counts_down; ring = turns_ring; cut = cuts_ring; alias = takes_alias; objects = meets_objects; failing = fails_second; four = adds_four; five = adds_five; object = fills_object }
