use Rattle.std.proofs.Common.{◌≡◌, ◌++◌, map, drop}
use Rattle.mdr_mem.specs.Contents.{wire_in}
use Rattle.mdr_kernel_memory.proofs.blocks.wires_now.Given as goal

abbrev pub invariant-loop-v : goal.invariant-loop-v
invariant-loop-v l = l.wires ++ map (wire_in l.blocks.handles) (drop l.v-index l.cells) ≡ map (wire_in l.blocks.handles) l.cells
