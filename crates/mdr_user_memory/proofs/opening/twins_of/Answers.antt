use Rattle.std.proofs.Common.{length, refl, take, ap}
use Rattle.std.proofs.lemmas.Option.{slice_get_read}
use Rattle.mdr_mem.specs.Contents.{Contents}
use Rattle.mdr_track.specs.Tracked.{pairs_of}
use Rattle.mdr_user_memory.proofs.LivedLaws.{there_first, there_more}
use Rattle.mdr_user_memory.proofs.LoopLaws.{taken_more}
use Rattle.mdr_user_memory.proofs.OpeningLaws.{empty_paired, free_behind, named_paired}
use Rattle.mdr_user_memory.proofs.opening.twins_of.Goals as goal

pub loop-block-init : goal.loop-block-init
loop-block-init c = (
  empty_paired c.new-region.result.contents (pairs_of c.new-pairs.result) c.new-region.ensures.empty c.new-pairs.ensures.pairs,
  there_first c.new-region.result.contents.lives (pairs_of c.new-pairs.result) (ap (λ (r : Contents). r.lives) c.new-region.ensures.empty) c.new-pairs.ensures.pairs,
)

pub add-requires-clause-new : goal.add-requires-clause-new
add-requires-clause-new c =
    free_behind c.args.copy.now c.loop-block.block-index c.block-item.result c.loop-block.region.contents (pairs_of c.loop-block.pairs) c.loop-block-test.true c.block-item.is c.requires.rises c.loop-block.invariant.0

pub add-requires-clause-sized : goal.add-requires-clause-sized
add-requires-clause-sized c =
    (c.requires.ordered c.loop-block.block-index c.block-item.result (slice_get_read c.args.copy.now (length c.args.copy.now) c.loop-block.block-index c.block-item.result refl c.loop-block-test.true c.block-item.is)).sized

pub add-requires-clause-paired : goal.add-requires-clause-paired
add-requires-clause-paired c =
    let at = slice_get_read c.args.copy.now (length c.args.copy.now) c.loop-block.block-index c.block-item.result refl c.loop-block-test.true c.block-item.is in
    named_paired (take c.loop-block.block-index c.args.copy.now) c.loop-block.region.contents (pairs_of c.loop-block.pairs) c.block-item.result.cells c.loop-block.invariant.0 (c.requires.ordered c.loop-block.block-index c.block-item.result at)

pub add-requires-clause-linked : goal.add-requires-clause-linked
add-requires-clause-linked c = c.loop-block.invariant.0.twin.linked

pub loop-block-preserved : goal.loop-block-preserved
loop-block-preserved c = (
  taken_more c.args.copy.now c.loop-block.block-index c.block-item.result c.loop-block.region.contents c.add.new.region.contents (pairs_of c.loop-block.pairs) (pairs_of c.add.new.pairs) c.loop-block-test.true c.block-item.is
      c.in_ok-add.ensures.moves c.loop-block.invariant.0,
  there_more c.args.copy.now c.loop-block.block-index c.block-item.result c.loop-block.region.contents.lives c.add.new.region.contents.lives (pairs_of c.loop-block.pairs) (pairs_of c.add.new.pairs) c.loop-block-test.true c.block-item.is
      c.in_ok-add.ensures.lived c.loop-block.invariant.1,
)
