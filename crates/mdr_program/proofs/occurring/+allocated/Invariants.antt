use Rattle.std.proofs.Common.{◌≡◌, ◌++◌, drop}
use Rattle.mdr_core.specs.Folds.{codes_of}
use Rattle.mdr_program.specs.Occurring.{allocated_in}
use Rattle.mdr_program.proofs.occurring.+allocated.Given as goal

abbrev pub invariant-add_all_allocated-loop-statement : goal.invariant-add_all_allocated-loop-statement
invariant-add_all_allocated-loop-statement l = l.all ++ allocated_in (codes_of (drop l.statement-index l.body)) ≡ l.fn.all ++ allocated_in (codes_of l.body)
