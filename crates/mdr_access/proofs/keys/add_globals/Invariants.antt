use Rattle.std.proofs.Common.{◌≡◌, ◌++◌, drop}
use Rattle.mdr_access.specs.AllKeys.{global_keys}
use Rattle.mdr_access.proofs.keys.add_globals.Given as goal

abbrev pub invariant-loop-g : goal.invariant-loop-g
invariant-loop-g l = l.out.items ++ global_keys l.program l.g (drop l.g l.program.globals) ≡ l.fn.out.items ++ global_keys l.program 0 l.program.globals
