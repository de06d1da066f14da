use Rattle.std.proofs.Common.{◌≡◌, ◌++◌, drop}
use Rattle.mdr_slice.specs.Calls.{func_handlers}
use Rattle.mdr_slice.proofs.handlers.handlers_of.Given as goal

abbrev pub invariant-loop-func : goal.invariant-loop-func
invariant-loop-func l = l.names.items ++ func_handlers (drop l.func-index l.program.funcs) ≡ func_handlers l.program.funcs
