use Rattle.std.proofs.Common.{◌≡◌, ◌++◌, drop}
use Rattle.mdr_access.specs.AllKeys.{struct_keys}
use Rattle.mdr_access.proofs.keys.add_structs.Given as goal

abbrev pub invariant-loop-s : goal.invariant-loop-s
invariant-loop-s l = l.out.items ++ struct_keys l.program l.s (drop l.s l.program.structs) ≡ l.fn.out.items ++ struct_keys l.program 0 l.program.structs
