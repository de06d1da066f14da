use Rattle.std.proofs.Common.{◌≡◌, ◌++◌, map, drop}
use Rattle.mdr_mem.specs.Contents.{wire_in}
use Rattle.mdr_meaning.specs.Values.{wire_of}
use Rattle.mdr_world.proofs.globals.all_placed.Given as goal

abbrev pub invariant-loop-v : goal.invariant-loop-v
invariant-loop-v l = map (wire_in l.blocks.handles) l.values ++ map wire_of (drop l.v-index l.first) ≡ map wire_of l.first
