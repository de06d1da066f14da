use Rattle.std.proofs.Common.{◌≡◌, ◌++◌, drop}
use Rattle.mdr_program.specs.Occurring.{local_types}
use Rattle.mdr_program.proofs.occurring.add_local_types.Given as goal

abbrev pub invariant-loop-l : goal.invariant-loop-l
invariant-loop-l l = l.all ++ local_types (drop l.l-index l.locals) ≡ l.fn.all ++ local_types l.locals
