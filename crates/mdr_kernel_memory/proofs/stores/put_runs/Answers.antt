use Rattle.mdr_model.specs.Copies.{put_runs}
use Rattle.mdr_kernel_memory.specs.Holding.{holding}
use Rattle.mdr_kernel_memory.proofs.Storing.{run_storable, runs_all, runs_begin, runs_next}
use Rattle.mdr_kernel_memory.proofs.stores.put_runs.Goals as goal

pub loop-run-init : goal.loop-run-init
loop-run-init c = runs_begin c.args.runs.now c.args.world.now c.requires

pub put_run-requires : goal.put_run-requires
put_run-requires c = (run_storable c.args.runs.now c.loop-run.run-index c.run-item.result c.loop-run.world _ c.loop-run-test.true c.run-item.is c.loop-run.invariant).0

pub loop-run-preserved : goal.loop-run-preserved
loop-run-preserved c =
    runs_next c.args.runs.now c.loop-run.run-index c.run-item.result c.loop-run.world c.put_run.new.world (holding (put_runs c.args.runs.now c.args.world.now.world.memory) c.args.world.now) c.loop-run-test.true c.run-item.is
    c.put_run.ensures c.loop-run.invariant

pub returns : goal.returns
returns c = runs_all c.args.runs.now c.loop-run.run-index c.loop-run.world (holding (put_runs c.args.runs.now c.args.world.now.world.memory) c.args.world.now) c.loop-run-test.false c.loop-run.invariant
