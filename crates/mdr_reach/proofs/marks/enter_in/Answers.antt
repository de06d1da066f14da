use Rattle.mdr_cells.specs.Names.{named}
use Rattle.mdr_reach.specs.Marks.{counts_at}
use Rattle.mdr_reach.proofs.EnterLaws.{enters_more, enters_over}
use Rattle.mdr_reach.proofs.FollowLaws.{enters_clipped}
use Rattle.mdr_reach.proofs.marks.enter_in.Goals as goal

pub loop-index-init : goal.loop-index-init
loop-index-init c = enters_clipped c.args.scene.program.now c.args.scene.touched.now c.args.scene.blocks.now c.args.h c.requires.held (named c.args.marked.now) c.args.first c.args.count c.end_of-end.result c.end_of-end.ensures.from c.end_of-end.ensures.most c.end_of-end.ensures.whole

pub loop-index-preserved : goal.loop-index-preserved
loop-index-preserved c =
    enters_more (counts_at c.args.scene.program.now c.args.scene.touched.now c.args.scene.blocks.now.memory) c.args.h.born.serial (named c.loop-index.marked) (named c.enter.new.marked) _ c.loop-index.index c.end_of-end.result c.loop-index-test.true c.in_ok-enter.ensures c.loop-index.invariant

pub returns : goal.returns
returns c = enters_over (counts_at c.args.scene.program.now c.args.scene.touched.now c.args.scene.blocks.now.memory) c.args.h.born.serial (named c.loop-index.marked) _ c.loop-index.index c.end_of-end.result c.loop-index-test.false c.loop-index.invariant
