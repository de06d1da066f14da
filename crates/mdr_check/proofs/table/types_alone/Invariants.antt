use Rattle.std.proofs.Common.{◌≡◌, ◌++◌, drop}
use Rattle.mdr_check.specs.Tables.{types_alone}
use Rattle.mdr_check.proofs.table.types_alone.Given as goal

abbrev pub invariant-loop-t : goal.invariant-loop-t
invariant-loop-t l = l.all ++ types_alone (drop l.t-index l.types) ≡ l.initial.all ++ types_alone l.types
