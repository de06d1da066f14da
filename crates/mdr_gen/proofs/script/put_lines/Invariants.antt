use Rattle.std.proofs.Common.{◌≡◌, ◌++◌}
use Rattle.mdr_gen.specs.Generator.{lines_from}
use Rattle.mdr_gen.proofs.script.put_lines.Given as goal

abbrev pub invariant-loop-left : goal.invariant-loop-left
invariant-loop-left l = l.out.items ++ lines_from l.x l.left ≡ l.fn.out.items ++ lines_from l.fn.seed l.fn.size

abbrev pub decreases-loop-left : goal.decreases-loop-left
decreases-loop-left l = l.left
