use Rattle.std.proofs.Common.{◌≡◌, ◌++◌, map, drop, not}
use Rattle.mdr_access.proofs.walk.turned.Given as goal

abbrev pub invariant-loop-mark : goal.invariant-loop-mark
invariant-loop-mark l = l.out.items ++ map not (drop l.mark-index l.marks) ≡ map not l.marks
