use Rattle.std.proofs.Common.{◌≡◌, [], drop, map}
use Rattle.mdr_lower.specs.Apart.{arms}
use Rattle.mdr_lower.specs.Lowering.{run, clause_lowered, stmt_lowered}
use Rattle.mdr_lower.proofs.statements.+statements.Given as goal

abbrev pub invariant-put_list-loop-s : goal.invariant-put_list-loop-s
invariant-put_list-loop-s l = run l.work (map stmt_lowered (drop l.s-index l.statements)) ≡ run l.initial.work (map stmt_lowered l.statements)

abbrev pub invariant-arms_apart-loop-clause : goal.invariant-arms_apart-loop-clause
invariant-arms_apart-loop-clause l = arms l.slot (map clause_lowered (drop l.clause-index l.clauses)) l.all l.work ≡ arms l.slot (map clause_lowered l.clauses) [] l.initial.work
