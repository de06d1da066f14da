use Rattle.std.proofs.Common.{◌≡◌, ◌++◌, map}
use Rattle.mdr_model.specs.Sets.{cells_from}
use Rattle.mdr_plain.specs.Storage.{byte_at}
use Rattle.mdr_user_memory.proofs.ByteLaws.{bytes_left}
use Rattle.mdr_user_memory.proofs.bytes.bytes_from.Given as goal

abbrev pub invariant-loop-i : goal.invariant-loop-i
invariant-loop-i l = l.bytes ++ bytes_left l.memory.memory l.serial l.first l.count l.i ≡ map (byte_at l.memory.memory) (cells_from l.serial l.first l.count)
