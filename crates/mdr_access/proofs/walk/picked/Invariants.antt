use Rattle.std.proofs.Common.{◌≡◌, ◌++◌, drop}
use Rattle.mdr_access.specs.AllKeys.{picked}
use Rattle.mdr_access.proofs.walk.picked.Given as goal

abbrev pub invariant-loop-at : goal.invariant-loop-at
invariant-loop-at l = l.out.items ++ picked (drop l.at l.keys) (drop l.at l.marks) ≡ picked l.keys l.marks
