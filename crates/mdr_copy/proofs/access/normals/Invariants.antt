use Rattle.std.proofs.Common.{◌≡◌, ◌++◌, map, drop}
use Rattle.mdr_model.specs.Memory.{normal}
use Rattle.mdr_copy.proofs.access.normals.Given as goal

abbrev pub invariant-loop-value : goal.invariant-loop-value
invariant-loop-value l = l.out ++ map (normal l.memory) (drop l.value-index l.values) ≡ map (normal l.memory) l.values
