use Rattle.mdr_model.specs.Copies.{numbered, put_all}
use Rattle.mdr_kernel_memory.specs.Holding.{holding}
use Rattle.mdr_kernel_memory.proofs.Storing.{RowStands}
use Rattle.mdr_kernel_memory.proofs.stores.put_row.Given as goal

abbrev pub invariant-loop-i : goal.invariant-loop-i
invariant-loop-i l = RowStands l.serial l.first l.values l.i l.world (holding (put_all (numbered l.serial l.first l.values) l.initial.world.world.memory) l.initial.world)
