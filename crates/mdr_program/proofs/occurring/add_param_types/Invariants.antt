use Rattle.std.proofs.Common.{◌≡◌, ◌++◌, drop}
use Rattle.mdr_program.specs.Occurring.{param_types}
use Rattle.mdr_program.proofs.occurring.add_param_types.Given as goal

abbrev pub invariant-loop-p : goal.invariant-loop-p
invariant-loop-p l = l.all ++ param_types (drop l.p-index l.params) ≡ l.fn.all ++ param_types l.params
