use Rattle.std.proofs.Common.{◌≡◌, ◌++◌, drop}
use Rattle.mdr_program.specs.Programs.{global_defs}
use Rattle.mdr_program.proofs.program.global_defs.Given as goal

abbrev pub invariant-loop-v : goal.invariant-loop-v
invariant-loop-v l = l.all ++ global_defs l.types l.structs l.variables (drop l.v-index l.variables) ≡ global_defs l.types l.structs l.variables l.variables
