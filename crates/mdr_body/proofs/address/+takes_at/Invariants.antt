use Rattle.std.proofs.Common.{◌≡◌, drop}
use Rattle.mdr_operand.specs.Written.{lines_of, clauses_of}
use Rattle.mdr_body.specs.Addresses.{takes_along, clauses_take}
use Rattle.mdr_body.proofs.address.+takes_at.Given as goal

abbrev pub invariant-takes_along-loop-n : goal.invariant-takes_along-loop-n
invariant-takes_along-loop-n l = takes_along l.name (lines_of (drop l.n-index l.nodes)) l.behind ≡ takes_along l.name (lines_of l.nodes) l.behind

abbrev pub invariant-clauses_take-loop-clause : goal.invariant-clauses_take-loop-clause
invariant-clauses_take-loop-clause l = clauses_take l.name (clauses_of (drop l.clause-index l.clauses)) ≡ clauses_take l.name (clauses_of l.clauses)
