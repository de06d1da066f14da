use Rattle.mdr_copy.proofs.Rows.{some_all, some_next}
use Rattle.mdr_extents.specs.Extent.{is_touched}
use Rattle.mdr_user_code.proofs.grown.put_all_touched.Goals as goal

pub loop-index-preserved : goal.loop-index-preserved
loop-index-preserved c =
    some_next (λ d. is_touched c.args.program.now c.args.touched.now c.args.block d.index) c.loop-index.out _ _ c.args.block.serial c.loop-index.index c.args.size c.loop-index-test.true c.in_ok-put_touched.ensures c.loop-index.invariant

pub returns : goal.returns
returns c = some_all (λ d. is_touched c.args.program.now c.args.touched.now c.args.block d.index) c.loop-index.out _ c.args.block.serial c.loop-index.index c.args.size c.loop-index-test.false c.loop-index.invariant
