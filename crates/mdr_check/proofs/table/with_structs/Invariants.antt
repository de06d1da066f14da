use Rattle.std.proofs.Common.{◌≡◌, ◌++◌}
use Rattle.mdr_check.specs.Tables.{struct_types}
use Rattle.mdr_check.proofs.table.with_structs.Given as goal

abbrev pub invariant-loop-s : goal.invariant-loop-s
invariant-loop-s l = l.all ≡ l.initial.all ++ struct_types l.s
