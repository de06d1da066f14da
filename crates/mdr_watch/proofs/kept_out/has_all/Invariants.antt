use Rattle.std.proofs.Common.{◌-◌}
use Rattle.mdr_watch.proofs.Guards.{AllLeft}
use Rattle.mdr_watch.proofs.kept_out.has_all.Given as goal

-- what is left decides
abbrev pub invariant-loop-i : goal.invariant-loop-i
invariant-loop-i l = AllLeft l.set l.serial l.first l.count l.i

abbrev pub decreases-loop-i : goal.decreases-loop-i
decreases-loop-i l = l.count - l.i
