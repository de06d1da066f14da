use Rattle.std.proofs.Common.{◌≡◌, ◌++◌, drop}
use Rattle.mdr_model.specs.Memory.{killed}
use Rattle.mdr_copy.proofs.lives.killed.Given as goal

abbrev pub invariant-loop-block : goal.invariant-loop-block
invariant-loop-block l = l.out.items ++ killed l.serial (drop l.block-index l.memory) ≡ killed l.serial l.memory
