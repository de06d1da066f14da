use Rattle.std.proofs.Common.{◌≡◌, drop}
use Rattle.mdr_region.specs.Holes.{first_fit}
use Rattle.mdr_region.proofs.holes.first_of.Given as goal

abbrev pub invariant-loop-i : goal.invariant-loop-i
invariant-loop-i l = first_fit l.n l.i (drop l.i l.holes) ≡ first_fit l.n 0 l.holes
