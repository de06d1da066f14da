use Rattle.std.proofs.Common.{◌≡◌, ◌++◌, drop}
use Rattle.mdr_program.specs.Occurring.{struct_types}
use Rattle.mdr_program.proofs.occurring.add_struct_types.Given as goal

abbrev pub invariant-loop-d : goal.invariant-loop-d
invariant-loop-d l = l.all ++ struct_types (drop l.d-index l.structs) ≡ l.fn.all ++ struct_types l.structs
