use Rattle.mdr_copy.proofs.Stores.{stores_next, stores_all}
use Rattle.mdr_model.specs.Copies.{put_runs}
use Rattle.mdr_copy.proofs.store.put_runs.Goals as goal

pub loop-run-preserved : goal.loop-run-preserved
loop-run-preserved c = stores_next c.args.runs.now c.loop-run.run-index c.run-item.result c.as_slice.result.now c.loop-run.memory c.put_row.new.memory (put_runs c.args.runs.now c.args.memory.now) c.loop-run-test.true c.run-item.is c.as_slice.ensures c.put_row.ensures c.loop-run.invariant

pub returns : goal.returns
returns c = stores_all c.args.runs.now c.loop-run.run-index c.loop-run.memory (put_runs c.args.runs.now c.args.memory.now) c.loop-run-test.false c.loop-run.invariant
