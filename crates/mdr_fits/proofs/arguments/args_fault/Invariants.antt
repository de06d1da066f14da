use Rattle.std.proofs.Common.{◌≡◌, drop}
use Rattle.mdr_fits.specs.Judged.{places_of, types_of}
use Rattle.mdr_split.specs.Fits.{fits}
use Rattle.mdr_split.specs.Legal.{args_fault}
use Rattle.mdr_fits.proofs.arguments.args_fault.Given as goal

abbrev pub invariant-loop-i : goal.invariant-loop-i
invariant-loop-i l = args_fault (fits (places_of l.places)) l.i (drop l.i (types_of l.params)) (drop l.i l.args) ≡ args_fault (fits (places_of l.places)) 0 (types_of l.params) l.args
