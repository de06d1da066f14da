use Rattle.std.proofs.Common.{◌≡◌, ◌++◌, drop, map}
use Rattle.mdr_core.specs.declared.program.Func.{Func}
use Rattle.mdr_access.proofs.copies.names_of.Given as goal

abbrev pub invariant-loop-func : goal.invariant-loop-func
invariant-loop-func l = l.names.items ++ map (λ (f : Func). f.name) (drop l.func-index l.funcs) ≡ map (λ (f : Func). f.name) l.funcs
