use Rattle.std.proofs.Common.{◌≡◌, ◌++◌, drop}
use Rattle.mdr_access.specs.Exposed.{funcs_fields}
use Rattle.mdr_access.proofs.exposed.add_bodies.Given as goal

abbrev pub invariant-loop-func : goal.invariant-loop-func
invariant-loop-func l = l.out.items ++ funcs_fields l.program (drop l.func-index l.funcs) ≡ l.fn.out.items ++ funcs_fields l.program (l.funcs)
