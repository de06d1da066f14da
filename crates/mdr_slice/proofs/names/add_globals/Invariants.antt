use Rattle.std.proofs.Common.{◌≡◌, ◌++◌, drop}
use Rattle.mdr_slice.specs.Calls.{global_names}
use Rattle.mdr_slice.proofs.names.add_globals.Given as goal

abbrev pub invariant-loop-def : goal.invariant-loop-def
invariant-loop-def l = l.out.items ++ global_names (drop l.def-index l.defs) ≡ l.fn.out.items ++ global_names (l.defs)
