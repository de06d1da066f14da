use Rattle.std.proofs.Common.{◌≡◌, ◌++◌, drop}
use Rattle.mdr_slice.specs.Calls.{values_names}
use Rattle.mdr_slice.proofs.names.add_values.Given as goal

abbrev pub invariant-loop-value : goal.invariant-loop-value
invariant-loop-value l = l.out.items ++ values_names (drop l.value-index l.values) ≡ l.fn.out.items ++ values_names (l.values)
