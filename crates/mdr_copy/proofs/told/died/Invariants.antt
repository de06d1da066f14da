use Rattle.std.proofs.Common.{◌≡◌, ◌++◌, drop}
use Rattle.mdr_model.specs.Copies.{died}
use Rattle.mdr_copy.proofs.told.died.Given as goal

abbrev pub invariant-loop-block : goal.invariant-loop-block
invariant-loop-block l = l.out.items ++ died (drop l.block-index l.copy) l.memory ≡ died l.copy l.memory
