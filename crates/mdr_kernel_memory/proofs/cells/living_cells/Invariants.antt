use Rattle.std.proofs.Common.{◌≡◌, ◌++◌, drop}
use Rattle.mdr_cells.specs.Names.{named}
use Rattle.mdr_watched.specs.Views.{living}
use Rattle.mdr_kernel_memory.proofs.cells.living_cells.Given as goal

abbrev pub invariant-loop-name : goal.invariant-loop-name
invariant-loop-name l = l.view ++ living l.world.world.memory (named (drop l.name-index l.names)) ≡ living l.world.world.memory (named l.names)
