use Rattle.std.proofs.Common.{◌≡◌, ◌++◌, drop}
use Rattle.mdr_program.specs.Occurring.{field_types}
use Rattle.mdr_program.proofs.occurring.add_field_types.Given as goal

abbrev pub invariant-loop-x : goal.invariant-loop-x
invariant-loop-x l = l.all ++ field_types (drop l.x-index l.fields) ≡ l.fn.all ++ field_types l.fields
