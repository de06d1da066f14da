use Rattle.mdr_track.specs.Tracked.{pairs_of}
use Rattle.mdr_user_memory.specs.Taking.{kept_runs}
use Rattle.mdr_user_memory.proofs.LoopLaws.{keeps_first, runs_moves, runs_next}
use Rattle.mdr_user_memory.proofs.lists.scatter.Goals as goal

pub keep_row-requires : goal.keep_row-requires
keep_row-requires c = c.loop-run.invariant.linked

pub loop-run-init : goal.loop-run-init
loop-run-init c = keeps_first (kept_runs c.args.runs.now) c.args.region.now.contents (pairs_of c.args.pairs.now) c.requires

pub loop-run-preserved : goal.loop-run-preserved
loop-run-preserved c =
    runs_next (kept_runs c.args.runs.now) c.args.runs.now c.loop-run.run-index c.run-item.result c.as_slice.result.now c.args.region.now.contents c.loop-run.region.contents c.keep_row.new.region.contents (pairs_of c.args.pairs.now)
    c.loop-run-test.true c.run-item.is c.as_slice.ensures c.keep_row.ensures.linked c.keep_row.ensures.moves c.keep_row.ensures.lives c.loop-run.invariant

pub returns-clause-linked : goal.returns-clause-linked
returns-clause-linked c = c.loop-run.invariant.linked

pub returns-clause-moves : goal.returns-clause-moves
returns-clause-moves c =
    runs_moves (kept_runs c.args.runs.now) c.args.runs.now c.loop-run.run-index c.args.region.now.contents c.loop-run.region.contents (pairs_of c.args.pairs.now) c.loop-run-test.false c.loop-run.invariant

pub returns-clause-lives : goal.returns-clause-lives
returns-clause-lives c = c.loop-run.invariant.lives
