use Rattle.std.proofs.Common.{◌≡◌, ◌++◌, drop}
use Rattle.mdr_access.specs.AllKeys.{element_keys}
use Rattle.mdr_access.proofs.keys.add_elements.Given as goal

abbrev pub invariant-loop-t : goal.invariant-loop-t
invariant-loop-t l = l.out.items ++ element_keys l.program l.t (drop l.t l.program.types) ≡ l.fn.out.items ++ element_keys l.program 0 l.program.types
