use Rattle.std.proofs.Common.{◌≡◌, [], drop}
use Rattle.mdr_check.specs.Tables.{with_pointers}
use Rattle.mdr_check.proofs.table.with_pointers.Given as goal

abbrev pub invariant-loop-ty : goal.invariant-loop-ty
invariant-loop-ty l = with_pointers l.program.structs l.all (drop l.ty-index l.occurring) ≡ with_pointers l.program.structs [] l.occurring
