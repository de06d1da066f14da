use Rattle.std.proofs.Common.{◌≡◌, ◌+◌, drop}
use Rattle.mdr_region.specs.Holes.{passed_by}
use Rattle.mdr_region.proofs.holes.passed.Given as goal

abbrev pub invariant-loop-i : goal.invariant-loop-i
invariant-loop-i l = l.i + passed_by l.start (drop l.i l.holes) ≡ passed_by l.start l.holes
