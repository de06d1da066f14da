use Rattle.std.proofs.Common.{◌≡◌, drop}
use Rattle.mdr_operand.specs.Written.{lines_of, clauses_of}
use Rattle.mdr_body.specs.Uses.{use_along, use_in_clauses}
use Rattle.mdr_body.proofs.uses.+use_at.Given as goal

abbrev pub invariant-use_along-loop-n : goal.invariant-use_along-loop-n
invariant-use_along-loop-n l = use_along l.name (lines_of (drop l.n-index l.nodes)) l.behind ≡ use_along l.name (lines_of l.nodes) l.behind

abbrev pub invariant-use_in_clauses-loop-clause : goal.invariant-use_in_clauses-loop-clause
invariant-use_in_clauses-loop-clause l = use_in_clauses l.name (clauses_of (drop l.clause-index l.clauses)) ≡ use_in_clauses l.name (clauses_of l.clauses)
