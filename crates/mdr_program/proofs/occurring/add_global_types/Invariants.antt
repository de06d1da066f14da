use Rattle.std.proofs.Common.{◌≡◌, ◌++◌, drop}
use Rattle.mdr_program.specs.Occurring.{global_types}
use Rattle.mdr_program.proofs.occurring.add_global_types.Given as goal

abbrev pub invariant-loop-v : goal.invariant-loop-v
invariant-loop-v l = l.all ++ global_types (drop l.v-index l.variables) ≡ l.fn.all ++ global_types l.variables
