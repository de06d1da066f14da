use Rattle.std.proofs.Common.{◌≡◌, ◌++◌, map, drop}
use Rattle.mdr_model.specs.Values.{value_of}
use Rattle.mdr_user_memory.proofs.values.values_of.Given as goal

abbrev pub invariant-loop-wire : goal.invariant-loop-wire
invariant-loop-wire l = l.values ++ map value_of (drop l.wire-index l.wires) ≡ map value_of l.wires
