use Rattle.std.proofs.Common.{◌≡◌, ◌++◌}
use Rattle.mdr_program.proofs.parts.appended.Given as goal

abbrev pub invariant-loop-l : goal.invariant-loop-l
invariant-loop-l l = l.all ≡ l.initial.all ++ l.yielded
