use Rattle.mdr_access.proofs.SharedLaws.{one_counted}
use Rattle.mdr_access.proofs.shared.each_alone.Goals as goal

pub loop-func-preserved : goal.loop-func-preserved
loop-func-preserved c = one_counted _ c.loop-func.firsts.items _ c.loop-func.invariant c.in_ok-push.ensures.items
