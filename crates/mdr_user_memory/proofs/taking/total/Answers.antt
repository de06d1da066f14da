use Rattle.mdr_user_memory.proofs.LoopLaws.{total_done, total_next}
use Rattle.mdr_user_memory.proofs.taking.total.Goals as goal

pub loop-new-preserved : goal.loop-new-preserved
loop-new-preserved c = total_next c.args.news.now c.loop-new.new-index c.new-item.result c.loop-new.sum c.in_ok-sum.sum c.len.result _ c.loop-new-test.true c.new-item.is c.len.ensures c.in_ok-sum.ensures c.loop-new.invariant

pub returns : goal.returns
returns c = total_done c.args.news.now c.loop-new.new-index c.loop-new.sum _ c.loop-new-test.false c.loop-new.invariant
