use Rattle.std.proofs.Common.{◌≡◌, ◌++◌}
use Rattle.mdr_faults.proofs.joining.appended.Given as goal

abbrev pub invariant-loop-y : goal.invariant-loop-y
invariant-loop-y g l = l.all ≡ l.initial.all ++ l.yielded
