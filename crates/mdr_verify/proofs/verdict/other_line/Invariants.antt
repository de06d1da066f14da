use Rattle.std.proofs.Common.{◌≤◌, ◌+◌, length}
use Rattle.mdr_verify.proofs.Alike.{AreAlike}
use Rattle.mdr_verify.proofs.verdict.other_line.Given as goal

abbrev pub invariant-loop-line : goal.invariant-loop-line
invariant-loop-line l = record {
  alike : AreAlike l.said l.due l.said_rest l.due_rest l.number;
  few : l.number + length l.said_rest ≤ 1 + length l.said;
}

abbrev pub decreases-loop-line : goal.decreases-loop-line
decreases-loop-line l = length l.said_rest
