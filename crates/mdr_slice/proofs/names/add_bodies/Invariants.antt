use Rattle.std.proofs.Common.{◌≡◌, ◌++◌, drop}
use Rattle.mdr_slice.specs.Calls.{body_names}
use Rattle.mdr_slice.proofs.names.add_bodies.Given as goal

abbrev pub invariant-loop-func : goal.invariant-loop-func
invariant-loop-func l = l.out.items ++ body_names (drop l.func-index l.funcs) ≡ l.fn.out.items ++ body_names (l.funcs)
