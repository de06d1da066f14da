use Rattle.mdr_model.specs.Copies.{numbered}
use Rattle.mdr_track.specs.Tracked.{pairs_of}
use Rattle.mdr_user_memory.specs.Taking.{kept_all}
use Rattle.mdr_user_memory.proofs.LoopLaws.{row_first, row_moves, row_next}
use Rattle.mdr_user_memory.proofs.lists.keep_row.Goals as goal

pub keep-requires : goal.keep-requires
keep-requires c = c.loop-i.invariant.linked

pub loop-i-init : goal.loop-i-init
loop-i-init c = row_first c.args.serial c.args.first c.args.values.now c.args.region.now.contents (pairs_of c.args.pairs.now) c.requires

pub returns-clause-linked : goal.returns-clause-linked
returns-clause-linked c = c.loop-i.invariant.linked

pub returns-clause-moves : goal.returns-clause-moves
returns-clause-moves c =
    row_moves c.args.serial c.args.first (kept_all (numbered c.args.serial c.args.first c.args.values.now)) c.args.values.now c.loop-i.i c.args.region.now.contents c.loop-i.region.contents (pairs_of c.args.pairs.now) c.loop-i-test.false c.loop-i.invariant

pub loop-i-preserved : goal.loop-i-preserved
loop-i-preserved c =
    row_next c.args.serial c.args.first (kept_all (numbered c.args.serial c.args.first c.args.values.now)) c.args.values.now c.loop-i.i _ c.value_of.result c.args.region.now.contents c.loop-i.region.contents c.keep.new.region.contents
    (pairs_of c.args.pairs.now) c.loop-i-test.true c.value_of.ensures c.keep.ensures.linked c.keep.ensures.moves c.keep.ensures.lives c.loop-i.invariant

pub returns-clause-lives : goal.returns-clause-lives
returns-clause-lives c = c.loop-i.invariant.lives
