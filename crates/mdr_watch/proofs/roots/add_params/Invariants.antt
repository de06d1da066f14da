use Rattle.std.proofs.Common.{◌-◌, length}
use Rattle.mdr_watch.proofs.Passing.{Adding}
use Rattle.mdr_watch.proofs.roots.add_params.Given as goal

-- those that are left come behind those that are there
abbrev pub invariant-loop-i : goal.invariant-loop-i
invariant-loop-i l = Adding l.fn.roots l.roots l.params l.args l.i

abbrev pub decreases-loop-i : goal.decreases-loop-i
decreases-loop-i l = length l.params - l.i
