use Rattle.std.proofs.Common.{◌≡◌}
use Rattle.mdr_faults.specs.Declarations.{starred}
use Rattle.mdr_faults.proofs.types.starred.Given as goal

abbrev pub invariant-loop-left : goal.invariant-loop-left
invariant-loop-left l = starred l.left l.pointer ≡ starred l.fn.stars l.fn.ty

abbrev pub decreases-loop-left : goal.decreases-loop-left
decreases-loop-left l = l.left
