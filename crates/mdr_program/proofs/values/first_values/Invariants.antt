use Rattle.std.proofs.Common.{◌≡◌, ◌++◌, drop}
use Rattle.mdr_program.specs.Values.{first_values}
use Rattle.mdr_program.proofs.values.first_values.Given as goal

abbrev pub invariant-loop-x : goal.invariant-loop-x
invariant-loop-x l = l.all ++ first_values l.types l.structs l.variables (drop l.x-index l.xs) ≡ first_values l.types l.structs l.variables l.xs
