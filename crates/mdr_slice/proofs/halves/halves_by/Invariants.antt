use Rattle.std.proofs.Common.{◌≡◌, ◌++◌, map, drop}
use Rattle.mdr_slice.specs.Marks.{half_by}
use Rattle.mdr_slice.proofs.halves.halves_by.Given as goal

abbrev pub invariant-loop-mark : goal.invariant-loop-mark
invariant-loop-mark l = l.halves.items ++ map half_by (drop l.mark-index l.kernel) ≡ map half_by l.kernel
