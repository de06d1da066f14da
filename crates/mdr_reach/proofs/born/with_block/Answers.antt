use Rattle.mdr_extents.specs.Extent.{is_touched}
use Rattle.mdr_reach.proofs.BornLaws.{before_first, before_more, cells_more, cells_over, first_kept}
use Rattle.mdr_reach.proofs.born.with_block.Goals as goal

pub loop-index-init : goal.loop-index-init
loop-index-init c = record {
  gains = first_kept (is_touched c.args.scene.program.now c.args.scene.touched.now c.args.h.born) c.args.h.born.serial _ _;
  before = before_first _ c.args.h.born.serial c.requires.older;
}

pub loop-index-preserved : goal.loop-index-preserved
loop-index-preserved c = record {
  gains = cells_more (is_touched c.args.scene.program.now c.args.scene.touched.now c.args.h.born) c.args.h.born.serial c.loop-index.set _ _ c.loop-index.index _ c.loop-index-test.true c.in_ok-set.ensures c.loop-index.invariant.gains;
  before = before_more (is_touched c.args.scene.program.now c.args.scene.touched.now c.args.h.born) c.args.h.born.serial c.loop-index.set _ c.loop-index.index c.in_ok-set.ensures c.loop-index.invariant.before;
}

pub returns : goal.returns
returns c = cells_over (is_touched c.args.scene.program.now c.args.scene.touched.now c.args.h.born) c.args.h.born.serial c.loop-index.set _ c.loop-index.index _ c.loop-index-test.false c.loop-index.invariant.gains
