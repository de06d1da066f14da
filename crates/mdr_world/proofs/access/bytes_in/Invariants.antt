use Rattle.std.proofs.Common.{◌≡◌, ◌-◌, ◌++◌, map}
use Rattle.mdr_model.specs.Sets.{cells_from}
use Rattle.mdr_plain.specs.Storage.{byte_at}
use Rattle.mdr_world.proofs.ReachLaws.{bytes_left}
use Rattle.mdr_world.proofs.access.bytes_in.Given as goal

abbrev pub invariant-loop-i : goal.invariant-loop-i
invariant-loop-i l = l.bytes ++ bytes_left l.blocks.memory l.block.serial l.first l.count l.i ≡ map (byte_at l.blocks.memory) (cells_from l.block.serial l.first l.count)

abbrev pub decreases-loop-i : goal.decreases-loop-i
decreases-loop-i l = l.count - l.i
