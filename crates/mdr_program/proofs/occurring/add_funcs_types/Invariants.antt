use Rattle.std.proofs.Common.{◌≡◌, ◌++◌, drop}
use Rattle.mdr_program.specs.Occurring.{funcs_types}
use Rattle.mdr_program.proofs.occurring.add_funcs_types.Given as goal

abbrev pub invariant-loop-f : goal.invariant-loop-f
invariant-loop-f l = l.all ++ funcs_types (drop l.f-index l.funcs) ≡ l.fn.all ++ funcs_types l.funcs
