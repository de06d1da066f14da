use Rattle.std.proofs.Common.{◌≡◌, false, drop}
use Rattle.mdr_operand.specs.Written.{lines_of}
use Rattle.mdr_body.specs.Clauses.{last_leaves}
use Rattle.mdr_body.proofs.clauses.last_leaves.Given as goal

abbrev pub invariant-loop-n : goal.invariant-loop-n
invariant-loop-n l = last_leaves l.left (lines_of (drop l.n-index l.nodes)) ≡ last_leaves false (lines_of l.nodes)
