use Rattle.std.proofs.Common.{◌≡◌, ◌++◌, map, drop}
use Rattle.mdr_mem.specs.Contents.{current}
use Rattle.mdr_world.proofs.handles.held_values.Given as goal

abbrev pub invariant-loop-v : goal.invariant-loop-v
invariant-loop-v l = l.values ++ map (current l.blocks.handles) (drop l.v-index l.cells) ≡ map (current l.blocks.handles) l.cells
