use Rattle.mdr_model.specs.Copies.{put_runs}
use Rattle.mdr_kernel_memory.specs.Holding.{holding}
use Rattle.mdr_kernel_memory.proofs.Storing.{RunsStand}
use Rattle.mdr_kernel_memory.proofs.stores.put_runs.Given as goal

abbrev pub invariant-loop-run : goal.invariant-loop-run
invariant-loop-run l = RunsStand l.runs l.run-index l.world (holding (put_runs l.runs l.initial.world.world.memory) l.initial.world)
