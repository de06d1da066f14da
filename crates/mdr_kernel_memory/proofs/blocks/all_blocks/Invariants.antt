use Rattle.std.proofs.Common.{◌≡◌, ◌++◌, drop}
use Rattle.mdr_kernel_memory.proofs.blocks.all_blocks.Given as goal

abbrev pub invariant-loop-place : goal.invariant-loop-place
invariant-loop-place l = l.memory.items ++ drop l.place l.blocks.memory ≡ l.blocks.memory
